-- The scope's cases P1 to P10, cases C1 to C14 of request E2, D1 to D7 of request E5 and R1 to R8 of request E8: one table, and one proposition for all its rows, by computation. A row reads as Rows.antt
-- says. Doubles are their bits. Cases C10, C11, C12, R4 and R5, which take longest, stand in crates/cases.
use mathlib.Core.Path.{◌≡◌, refl}
use mathlib.Core.Bool.{true}
use mathlib.Core.List.{List, [], ◌∷◌}
use Rattle.lists.specs.Lists.{all}
use Rattle.model.proofs.Rows.{Row, prints, cuts, sums, products, roots, right}
use Rattle.model.proofs.Texts.{single, twice, brief, empty, slope, diagonal, light, loose, rise, still}

-- enclosed, visited 1, pending 0, from 0 to 1
abbrev P1 : Row
P1 = prints 1 (single 1 0x4008000000000000) (1 ∷ 1 ∷ 0 ∷ 0 ∷ 0 ∷ 0 ∷ 0x3ff0000000000000 ∷ [])

-- nodes 0: spent, visited 0, pending 1
abbrev P2 : Row
P2 = prints 1 (single 0 0x4008000000000000) (2 ∷ 0 ∷ 0 ∷ 0 ∷ 1 ∷ 0 ∷ 0 ∷ [])

-- nodes 0, the box at 4: none, visited 0
abbrev P3 : Row
P3 = prints 1 (single 0 0x4010000000000000) (0 ∷ 0 ∷ 0 ∷ 0 ∷ 0 ∷ 0 ∷ 0 ∷ [])

-- the box three doubles above 3: enclosed
abbrev P4 : Row
P4 = prints 1 (single 1 0x4008000000000003) (1 ∷ 1 ∷ 0 ∷ 0 ∷ 0 ∷ 0 ∷ 0x3ff0000000000000 ∷ [])

-- the box four doubles above 3: none
abbrev P5 : Row
P5 = prints 1 (single 1 0x4008000000000004) (0 ∷ 0 ∷ 0 ∷ 0 ∷ 0 ∷ 0 ∷ 0 ∷ [])

-- enclosed, from 0 to 1
abbrev P6 : Row
P6 = prints 1 twice (1 ∷ 1 ∷ 0 ∷ 0 ∷ 0 ∷ 0 ∷ 0x3ff0000000000000 ∷ [])

-- 1 + 1
abbrev P7 : Row
P7 = sums 0x3ff0000000000000 0x3ff0000000000000 0x3fffffffffffffff 0x4000000000000001

-- the root of 2
abbrev P8 : Row
P8 = roots 0x4000000000000000 0x3ff6a09e667f3bcd

-- the root of 2 ^ -1074
abbrev P9 : Row
P9 = roots 0x0000000000000001 0x1e60000000000000

-- zero times zero
abbrev P10 : Row
P10 = products 0 0 0x8000000000000001 0x0000000000000001

-- Request E2. Restrictions of a path on the domain from 0 to 1: to 0 and 1, no cut;
abbrev C1 : Row
C1 = cuts (diagonal 0 0 0) 0 0x3ff0000000000000 0

-- to 0 and 1/2, one;
abbrev C2 : Row
C2 = cuts (diagonal 0 0 0) 0 0x3fe0000000000000 1

-- to 1/2 and 1, one;
abbrev C3 : Row
C3 = cuts (diagonal 0 0 0) 0x3fe0000000000000 0x3ff0000000000000 1

-- to 1/4 and 3/4, two;
abbrev C4 : Row
C4 = cuts (diagonal 0 0 0) 0x3fd0000000000000 0x3fe8000000000000 2

-- to 1/2 and 1/2, one: hi does not lie strictly inside what is left.
abbrev C5 : Row
C5 = cuts (diagonal 0 0 0) 0x3fe0000000000000 0x3fe0000000000000 1

-- The box in the middle: cut down at both ends, and then reported: enclosed, visited 2, cuts 2
abbrev C6 : Row
C6 = prints 1 (diagonal 2 0x3fe0000000000000 0x3fe0000000000000) (1 ∷ 2 ∷ 2 ∷ 0 ∷ 0 ∷ 0x3fdfffffffffffc1 ∷ 0x3fe0000000000029 ∷ [])

-- with one node: the piece waits, and its cuts count: spent, visited 1, cuts 2, pending 1
abbrev C7 : Row
C7 = prints 1 (diagonal 1 0x3fe0000000000000 0x3fe0000000000000) (2 ∷ 1 ∷ 2 ∷ 0 ∷ 1 ∷ 0 ∷ 0 ∷ [])

-- the box at the start: the hat begins where the domain does, and only what is behind it is cut off: cuts 1
abbrev C8 : Row
C8 = prints 1 (diagonal 1 0 0) (2 ∷ 1 ∷ 1 ∷ 0 ∷ 1 ∷ 0 ∷ 0 ∷ [])

-- the box at the end: only what is in front of the hat is cut off: cuts 1
abbrev C9 : Row
C9 = prints 1 (diagonal 1 0x3ff0000000000000 0x3ff0000000000000) (2 ∷ 1 ∷ 1 ∷ 0 ∷ 1 ∷ 0 ∷ 0 ∷ [])

-- two cuts, and a weight of what they leave is not above zero: refused by 11, visited 1, cuts 0
abbrev C13 : Row
C13 = prints 1 light (111 ∷ 1 ∷ 0 ∷ 0 ∷ 0 ∷ 0 ∷ 0 ∷ [])

-- on the domain from 0 to 2 ^ -1018, the same after four cuts that count: refused by 11, visited 3, cuts 4
abbrev C14 : Row
C14 = prints 1 (rise 0x0050000000000000 3) (111 ∷ 3 ∷ 4 ∷ 0 ∷ 0 ∷ 0 ∷ 0 ∷ [])

-- Request E5. The path is halved, and both halves wait; pieces that only wait do not count: spent, visited 1, depth 0, pending 2
abbrev D1 : Row
D1 = prints 1 (diagonal 1 0 0x3ff0000000000000) (2 ∷ 1 ∷ 0 ∷ 0 ∷ 2 ∷ 0 ∷ 0 ∷ [])

-- the left half is visited: spent, visited 2, depth 1, pending 1
abbrev D2 : Row
D2 = prints 1 (diagonal 2 0 0x3ff0000000000000) (2 ∷ 2 ∷ 0 ∷ 1 ∷ 1 ∷ 0 ∷ 0 ∷ [])

-- the box from 3/4 to 1: the left half is dropped, the right one halved, and the first of its halves visited: spent, visited 4, depth 2, pending 3
abbrev D3 : Row
D3 = prints 1 (slope 0x3ff0000000000000 0 4 0x3fe8000000000000 0x3ff0000000000000) (2 ∷ 4 ∷ 0 ∷ 2 ∷ 3 ∷ 0 ∷ 0 ∷ [])

-- the left half is halved, and the right one cut down: what is left of that is visited last, and is less deep than those before it: enclosed, visited 6, cuts 1, depth 2
abbrev D4 : Row
D4 = prints 1 loose (1 ∷ 6 ∷ 1 ∷ 2 ∷ 0 ∷ 0x3fd0000000000002 ∷ 0x3fe800000000004d ∷ [])

-- on the domain from 0 to 2 ^ -1023, the visit of the left half ends in 11, and counts: refused by 11, visited 2, depth 1
abbrev D5 : Row
D5 = prints 1 (slope 0x0008000000000000 0 2 0 0x3fd0000000000000) (111 ∷ 2 ∷ 0 ∷ 1 ∷ 0 ∷ 0 ∷ 0 ∷ [])

-- A slot has a word for the depth: of a cubic of four points in space 8,192 numbers run 89 nodes,
abbrev D6 : Row
D6 = prints 1 (still 89) (0 ∷ 0 ∷ 0 ∷ 0 ∷ 0 ∷ 0 ∷ 0 ∷ [])

-- and 90 are refused by 10.
abbrev D7 : Row
D7 = prints 1 (still 90) (110 ∷ 0 ∷ 0 ∷ 0 ∷ 0 ∷ 0 ∷ 0 ∷ [])

-- Request E8. P4 in revision 2: none
abbrev R1 : Row
R1 = prints 2 (single 1 0x4008000000000003) (0 ∷ 0 ∷ 0 ∷ 0 ∷ 0 ∷ 0 ∷ 0 ∷ [])

-- P1 in revision 2: as in revision 1
abbrev R2 : Row
R2 = prints 2 (single 1 0x4008000000000000) (1 ∷ 1 ∷ 0 ∷ 0 ∷ 0 ∷ 0 ∷ 0x3ff0000000000000 ∷ [])

-- The scope's example of 11, in revision 1: refused by 11 after one visit
abbrev R3 : Row
R3 = prints 1 brief (111 ∷ 1 ∷ 0 ∷ 0 ∷ 0 ∷ 0 ∷ 0 ∷ [])

-- Another revision: 16, before 1; and 1 comes behind it
abbrev R6 : Row
R6 = prints 3 empty (116 ∷ 0 ∷ 0 ∷ 0 ∷ 0 ∷ 0 ∷ 0 ∷ [])

abbrev R7 : Row
R7 = prints 0 empty (116 ∷ 0 ∷ 0 ∷ 0 ∷ 0 ∷ 0 ∷ 0 ∷ [])

abbrev R8 : Row
R8 = prints 2 empty (101 ∷ 0 ∷ 0 ∷ 0 ∷ 0 ∷ 0 ∷ 0 ∷ [])

-- The table.
abbrev pub table : List Row
table = P1 ∷ P2 ∷ P3 ∷ P4 ∷ P5 ∷ P6 ∷ P7 ∷ P8 ∷ P9 ∷ P10 ∷ C1 ∷ C2 ∷ C3 ∷ C4 ∷ C5 ∷ C6 ∷ C7 ∷ C8 ∷ C9 ∷ C13 ∷ C14
    ∷ D1 ∷ D2 ∷ D3 ∷ D4 ∷ D5 ∷ D6 ∷ D7
    ∷ R1 ∷ R2 ∷ R3 ∷ R6 ∷ R7 ∷ R8 ∷ []

right-P1 : right P1 ≡ true
unfolding right
right-P1 = refl

right-P2 : right P2 ≡ true
unfolding right
right-P2 = refl

right-P3 : right P3 ≡ true
unfolding right
right-P3 = refl

right-P4 : right P4 ≡ true
unfolding right
right-P4 = refl

right-P5 : right P5 ≡ true
unfolding right
right-P5 = refl

right-P6 : right P6 ≡ true
unfolding right
right-P6 = refl

right-P7 : right P7 ≡ true
unfolding right
right-P7 = refl

right-P8 : right P8 ≡ true
unfolding right
right-P8 = refl

right-P9 : right P9 ≡ true
unfolding right
right-P9 = refl

right-P10 : right P10 ≡ true
unfolding right
right-P10 = refl

right-C1 : right C1 ≡ true
unfolding right
right-C1 = refl

right-C2 : right C2 ≡ true
unfolding right
right-C2 = refl

right-C3 : right C3 ≡ true
unfolding right
right-C3 = refl

right-C4 : right C4 ≡ true
unfolding right
right-C4 = refl

right-C5 : right C5 ≡ true
unfolding right
right-C5 = refl

right-C6 : right C6 ≡ true
unfolding right
right-C6 = refl

right-C7 : right C7 ≡ true
unfolding right
right-C7 = refl

right-C8 : right C8 ≡ true
unfolding right
right-C8 = refl

right-C9 : right C9 ≡ true
unfolding right
right-C9 = refl

right-C13 : right C13 ≡ true
unfolding right
right-C13 = refl

right-C14 : right C14 ≡ true
unfolding right
right-C14 = refl

right-D1 : right D1 ≡ true
unfolding right
right-D1 = refl

right-D2 : right D2 ≡ true
unfolding right
right-D2 = refl

right-D3 : right D3 ≡ true
unfolding right
right-D3 = refl

right-D4 : right D4 ≡ true
unfolding right
right-D4 = refl

right-D5 : right D5 ≡ true
unfolding right
right-D5 = refl

right-D6 : right D6 ≡ true
unfolding right
right-D6 = refl

right-D7 : right D7 ≡ true
unfolding right
right-D7 = refl

right-R1 : right R1 ≡ true
unfolding right
right-R1 = refl

right-R2 : right R2 ≡ true
unfolding right
right-R2 = refl

right-R3 : right R3 ≡ true
unfolding right
right-R3 = refl

right-R6 : right R6 ≡ true
unfolding right
right-R6 = refl

right-R7 : right R7 ≡ true
unfolding right
right-R7 = refl

right-R8 : right R8 ≡ true
unfolding right
right-R8 = refl

-- Every row is right.
pub all_right : all right table ≡ true
unfolding all
all_right =
    simp (
      right-P1,
      right-P2,
      right-P3,
      right-P4,
      right-P5,
      right-P6,
      right-P7,
      right-P8,
      right-P9,
      right-P10,
      right-C1,
      right-C2,
      right-C3,
      right-C4,
      right-C5,
      right-C6,
      right-C7,
      right-C8,
      right-C9,
      right-C13,
      right-C14,
      right-D1,
      right-D2,
      right-D3,
      right-D4,
      right-D5,
      right-D6,
      right-D7,
      right-R1,
      right-R2,
      right-R3,
      right-R6,
      right-R7,
      right-R8,
    )
