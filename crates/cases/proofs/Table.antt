-- Cases C10, C11 and C12 of request E2 and R4 and R5 of request E8, which take longest: a second table beside that of crates/model, and one proposition for all its rows, by computation. A row reads as
-- crates/model/proofs/Rows.antt says. Doubles are their bits.
use mathlib.Core.Path.{◌≡◌, refl}
use mathlib.Core.Bool.{true}
use mathlib.Core.List.{List, [], ◌∷◌}
use Rattle.lists.specs.Lists.{all}
use Rattle.model.proofs.Rows.{Row, prints, right}
use Rattle.model.proofs.Texts.{brief, diagonal, arc, rise}

-- Request E2. The box as wide as the path: a halving, and two reports: enclosed, visited 3, cuts 0
abbrev C10 : Row
C10 = prints 1 (diagonal 3 0 0x3ff0000000000000) (1 ∷ 3 ∷ 0 ∷ 1 ∷ 0 ∷ 0 ∷ 0x3ff0000000000000 ∷ [])

-- cut down at both ends, and then dropped: none, visited 2, cuts 2
abbrev C11 : Row
C11 = prints 1 arc (0 ∷ 2 ∷ 2 ∷ 0 ∷ 0 ∷ 0 ∷ 0 ∷ [])

-- cut down at both ends twice: spent, visited 2, cuts 4, pending 1
abbrev C12 : Row
C12 = prints 1 (rise 0x3ff0000000000000 2) (2 ∷ 2 ∷ 4 ∷ 0 ∷ 1 ∷ 0 ∷ 0 ∷ [])

-- Request E8. The scope's example of 11 (R3), in revision 2: spent, visited 8, depth 3, pending 3
abbrev R4 : Row
R4 = prints 2 brief (2 ∷ 8 ∷ 0 ∷ 3 ∷ 3 ∷ 0 ∷ 0 ∷ [])

-- C6 in revision 2: the hat is 1/2 alone, one cut leaves a piece that begins there, and it is reported: enclosed, visited 2, cuts 1, from 1/2 to 1/2
abbrev R5 : Row
R5 = prints 2 (diagonal 2 0x3fe0000000000000 0x3fe0000000000000) (1 ∷ 2 ∷ 1 ∷ 0 ∷ 0 ∷ 0x3fe0000000000000 ∷ 0x3fe0000000000000 ∷ [])

-- The table.
abbrev pub table : List Row
table = C10 ∷ C11 ∷ C12 ∷ R4 ∷ R5 ∷ []

right-C10 : right C10 ≡ true
unfolding right
right-C10 = refl

right-C11 : right C11 ≡ true
unfolding right
right-C11 = refl

right-C12 : right C12 ≡ true
unfolding right
right-C12 = refl

right-R4 : right R4 ≡ true
unfolding right
right-R4 = refl

right-R5 : right R5 ≡ true
unfolding right
right-R5 = refl

-- Every row is right.
pub all_right : all right table ≡ true
unfolding all
all_right = simp (right-C10, right-C11, right-C12, right-R4, right-R5)
