-- The texts of the table of cases. Doubles are their bits.
use Prim.Native.Nat.{ℕ}
use mathlib.Core.List.{List, [], ◌∷◌, ◌++◌}
use Rattle.model.proofs.Rows.{Text}

-- The text of P1, a single point (3, 5) of degree 0, with so many nodes and a box at this abscissa.
abbrev pub single : ℕ → ℕ → Text
single nodes x = record {
  dim = 2;
  degree = 0;
  count = 1;
  nodes = nodes;
  resolution = 0;
  knots = 0 ∷ 0x3ff0000000000000 ∷ [];
  points = 0x4008000000000000 ∷ 0x4008000000000000 ∷ 0x4014000000000000 ∷ 0x4014000000000000 ∷ 0x3ff0000000000000 ∷ 0x3ff0000000000000 ∷ [];
  box = x ∷ x ∷ 0x4014000000000000 ∷ 0x4014000000000000 ∷ [];
}

-- A text of degree 1 on 0, 0, e, e.
abbrev line_to : ℕ → ℕ → ℕ → List ℕ → List ℕ → Text
line_to e nodes resolution points box = record {
  dim = 2;
  degree = 1;
  count = 2;
  nodes = nodes;
  resolution = resolution;
  knots = 0 ∷ 0 ∷ e ∷ e ∷ [];
  points = points;
  box = box;
}

-- The same on 0, 0, 1, 1.
abbrev line : ℕ → ℕ → List ℕ → List ℕ → Text
line nodes resolution points box = line_to 0x3ff0000000000000 nodes resolution points box

-- P6: both points (2, 0), weights 1, and the box (2, 0).
abbrev pub twice : Text
twice = line 1 0
    (0x4000000000000000 ∷ 0x4000000000000000 ∷ 0 ∷ 0 ∷ 0x3ff0000000000000 ∷ 0x3ff0000000000000
    ∷ 0x4000000000000000 ∷ 0x4000000000000000 ∷ 0 ∷ 0 ∷ 0x3ff0000000000000 ∷ 0x3ff0000000000000
    ∷ [])
    (0x4000000000000000 ∷ 0x4000000000000000 ∷ 0 ∷ 0 ∷ [])

-- The scope's example of refusal 11: from (0, 0) to (1, 0) on 0, 0, 2 ^ -1060, 2 ^ -1060, weights 1, resolution 0, nodes 8, and the box (1/2, 0).
abbrev pub brief : Text
brief = line_to 0x4000 8 0
    (0 ∷ 0 ∷ 0 ∷ 0 ∷ 0x3ff0000000000000 ∷ 0x3ff0000000000000
    ∷ 0x3ff0000000000000 ∷ 0x3ff0000000000000 ∷ 0 ∷ 0 ∷ 0x3ff0000000000000 ∷ 0x3ff0000000000000
    ∷ [])
    (0x3fe0000000000000 ∷ 0x3fe0000000000000 ∷ 0 ∷ 0 ∷ [])

-- A text that 1 refuses: dim is 0, and all else.
abbrev pub empty : Text
empty = record { dim = 0; degree = 0; count = 0; nodes = 0; resolution = 0; knots = []; points = []; box = [] }

-- The line from (0, 0) to (1, 1) on 0, 0, e, e, weights 1, and the box from a to b on both axes.
abbrev pub slope : ℕ → ℕ → ℕ → ℕ → ℕ → Text
slope e resolution nodes a b = line_to e nodes resolution
    (0 ∷ 0 ∷ 0 ∷ 0 ∷ 0x3ff0000000000000 ∷ 0x3ff0000000000000
    ∷ 0x3ff0000000000000 ∷ 0x3ff0000000000000 ∷ 0x3ff0000000000000 ∷ 0x3ff0000000000000 ∷ 0x3ff0000000000000 ∷ 0x3ff0000000000000
    ∷ [])
    (a ∷ b ∷ a ∷ b ∷ [])

-- The same on 0, 0, 1, 1, resolution 1/2.
abbrev pub diagonal : ℕ → ℕ → ℕ → Text
diagonal nodes a b = slope 0x3ff0000000000000 0x3fe0000000000000 nodes a b

-- The numbers -1, 0 and 1, 0 beside the weights 2 ^ -1074 and 2 ^ -1073, and the box (0, 0).
abbrev pub light : Text
light = line 1 0
    (0xbff0000000000000 ∷ 0xbff0000000000000 ∷ 0 ∷ 0 ∷ 1 ∷ 1
    ∷ 0x3ff0000000000000 ∷ 0x3ff0000000000000 ∷ 0 ∷ 0 ∷ 2 ∷ 2
    ∷ [])
    (0 ∷ 0 ∷ 0 ∷ 0 ∷ [])

-- The numbers 4, 2 beside a weight from 1 to 2, and 0, 0 beside the weight 2; and the box at the abscissa 1, from 0 to 1.
abbrev pub loose : Text
loose = line 6 0
    (0x4010000000000000 ∷ 0x4010000000000000 ∷ 0x4000000000000000 ∷ 0x4000000000000000 ∷ 0x3ff0000000000000 ∷ 0x4000000000000000
    ∷ 0 ∷ 0 ∷ 0 ∷ 0 ∷ 0x4000000000000000 ∷ 0x4000000000000000
    ∷ [])
    (0x3ff0000000000000 ∷ 0x3ff0000000000000 ∷ 0 ∷ 0x3ff0000000000000 ∷ [])

-- A text of degree 2 on 0, 0, 0, e, e, e from (0, 0) to (4, y), with the control point (x, z) between them, weights 1, resolution 0, and a box that is the point (a, b).
abbrev bend : ℕ → ℕ → ℕ → ℕ → ℕ → ℕ → ℕ → Text
bend e nodes x z y a b = record {
  dim = 2;
  degree = 2;
  count = 3;
  nodes = nodes;
  resolution = 0;
  knots = 0 ∷ 0 ∷ 0 ∷ e ∷ e ∷ e ∷ [];
  points =
      0 ∷ 0 ∷ 0 ∷ 0 ∷ 0x3ff0000000000000 ∷ 0x3ff0000000000000
      ∷ x ∷ x ∷ z ∷ z ∷ 0x3ff0000000000000 ∷ 0x3ff0000000000000
      ∷ 0x4010000000000000 ∷ 0x4010000000000000 ∷ y ∷ y ∷ 0x3ff0000000000000 ∷ 0x3ff0000000000000
      ∷ [];
  box = a ∷ a ∷ b ∷ b ∷ [];
}

-- The arc by (2, 4) to (4, 0), and the box (2, 3), which lies above it.
abbrev pub arc : Text
arc = bend 0x3ff0000000000000 4 0x4000000000000000 0x4010000000000000 0 0x4000000000000000 0x4008000000000000

-- The bend by (1, 0) to (4, 4), and the box (3/2, 1), which it passes at e / 2.
abbrev pub rise : ℕ → ℕ → Text
rise e nodes = bend e nodes 0x3ff0000000000000 0 0x4010000000000000 0x3ff8000000000000 0x3ff0000000000000

-- A cubic of four points, all of them (0, 0, 0), and the box (1, 1, 1), which misses it.
abbrev pub still : ℕ → Text
still nodes = record {
  dim = 3;
  degree = 3;
  count = 4;
  nodes = nodes;
  resolution = 0;
  knots = 0 ∷ 0 ∷ 0 ∷ 0 ∷ one ∷ one ∷ one ∷ one ∷ [];
  points = origin ++ origin ++ origin ++ origin;
  box = one ∷ one ∷ one ∷ one ∷ one ∷ one ∷ [];
}
  where
    one : ℕ
    one = 0x3ff0000000000000

    origin : List ℕ
    origin = 0 ∷ 0 ∷ 0 ∷ 0 ∷ 0 ∷ 0 ∷ 0x3ff0000000000000 ∷ 0x3ff0000000000000 ∷ []
