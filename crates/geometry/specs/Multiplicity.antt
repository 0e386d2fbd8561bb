-- Rising knots, tested for runs that are too long: a knot against the one that lies as many places on as its value may occur. Definitions only.
use Rattle.std.specs.Prelude.{ℕ, ◌+◌, max, Bool, true, not, cond, ◌&&◌, ◌||◌, List, length, get_or, ltb, Float}
use Rattle.std.specs.Float.{nan}
use Rattle.std.specs.Float.Ieee.{lt, eq}

-- Knot number i is followed by an equal one, k places on.
unfoldable pub repeats_at : List Float → ℕ → ℕ → Bool
repeats_at knots i k = ltb (i + k) (length knots) && eq (get_or knots (i + k) nan) (get_or knots i nan)

-- On a domain from a to b, knot number i of rising knots does not begin a run that is too long: of more than degree + 1 at an end, of more than max(degree, 1) strictly inside.
unfoldable pub multiplicity_ok_at : ℕ → Float → Float → List Float → ℕ → Bool
multiplicity_ok_at p a b knots i =
    let u = get_or knots i nan in
    cond (eq u a || eq u b) (not (repeats_at knots i (p + 1))) (cond (lt a u && lt u b) (not (repeats_at knots i (max p 1))) true)
