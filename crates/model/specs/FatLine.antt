-- fat_line.rs: the zeros of a spline function by its fat line, and when a piece is cut down, halved or reported. Definitions only.
use Rattle.std.specs.Prelude.{ℕ, zero, suc, Bool, cond, ◌&&◌, ◌||◌, get_or, pos, Float}
use mathlib.Core.List.{List, [], ◌∷◌, map, zip_with}
use Rattle.std.proofs.Math.Option.{Option, none, some}
use Rattle.std.specs.Float.{binary64}
use Rattle.std.specs.Float.Ieee.{add, sub, mul, div, of_int}
use Rattle.lists.specs.Lists.{part, tab, last_d, foldl}
use Rattle.math.specs.declared.scalars.Scalar.{Scalar}
use Rattle.math.specs.Divided.{Divided}
use Rattle.std.specs.Prelude.{Some, None}
use Rattle.math.specs.Picks.{max_f}
use Rattle.math.specs.Root.{sqrt_f}
use Rattle.math.specs.Scalars.{Arithmetic, zero_f, sharp, absent, ZERO, ENTIRE, could_be_equal, definitely_greater, definitely_less, union_s, middle, width_s, value_or}
use Rattle.model.specs.Vector.{Vector, coordinate}
use Rattle.model.specs.NurbCurve.{domain, in_domain}
use Rattle.model.specs.Aabb.{unions}
use Rattle.model.specs.Hat.{Hat}

-- ---- greville_abscissae

-- The window of abscissa i: knots i + 1 to i + p.
abbrev pub window : ℕ → List Float → ℕ → List Float
window p knots i = part knots (suc i) p

-- The mean of a window. The sum begins at zero and is widened at each knot, at the first too.
unfoldable pub abscissa : Arithmetic → ℕ → List Float → Scalar
abscissa ar p knots = value_or (ar.div (foldl (λ s u. ar.add s (sharp u)) ZERO knots) (sharp (of_int binary64 (pos p)))) ENTIRE

-- One abscissa for each point; degree 0 has none.
unfoldable pub greville : Arithmetic → ℕ → ℕ → List Float → Option (List Scalar)
greville ar zero count knots = none
greville ar (suc p) count knots = some (tab count (λ i. abscissa ar (suc p) (window (suc p) knots i)))

-- ---- fat_line_zeros: where the spline whose graph has the control polygon (ξ i, d i) could be zero

-- How far a point of the polygon lies off the chord through (ξ 0, d 0).
abbrev pub offset : Arithmetic → Scalar → Scalar → Scalar → Scalar → Scalar → Scalar
offset ar slope ξ₀ d₀ ξ d = ar.sub d (ar.add d₀ (ar.mul slope (ar.sub ξ ξ₀)))

-- Where the band crosses zero: anywhere, if the chord could be level.
unfoldable pub crossing : Arithmetic → Scalar → Divided → Hat
crossing ar ξ₀ (Some q) = Some (ar.sub ξ₀ q)
crossing ar ξ₀ None = Some ENTIRE

-- The zeros, where the chord's slope is known, or is known to have failed. The band holds every offset, the first too.
unfoldable pub zeros_by : Arithmetic → List Scalar → List Scalar → Scalar → Scalar → Divided → Hat
zeros_by ar ξ d ξ₀ d₀ None = cond (could_be_equal (unions d) ZERO) (Some ENTIRE) None
zeros_by ar ξ d ξ₀ d₀ (Some slope) =
    let band = unions (zip_with (λ x y. offset ar slope ξ₀ d₀ x y) ξ d) in
    cond (could_be_equal (ar.add (union_s d₀ (last_d d absent)) band) ZERO)
    (crossing ar ξ₀ (ar.div (ar.add d₀ band) slope))
    None

-- The zeros. The slope is that of the chord from the first point of the polygon to the last.
unfoldable pub fat_line_zeros : Arithmetic → List Scalar → List Scalar → Hat
fat_line_zeros ar ξ d =
    let ξ₀ = get_or ξ 0 absent in
    let d₀ = get_or d 0 absent in
    zeros_by ar ξ d ξ₀ d₀ (ar.div (ar.sub (last_d d absent) d₀) (ar.sub (last_d ξ absent) ξ₀))

-- ---- sizes: plain doubles, for choices that need not be exact

-- The middle of each coordinate, over the middle of the weight.
unfoldable pub cartesian : ℕ → Vector → List Float
cartesian dim q = tab dim (λ k. div binary64 (middle (coordinate q k)) (middle (coordinate q dim)))

-- powi(2) is one multiplication (the scope).
abbrev pub square : Float → Float
square x = mul binary64 x x

-- The distance from a to b.
unfoldable pub distance : List Float → List Float → Float
distance a b = sqrt_f (foldl (λ s x. add binary64 s x) zero_f (zip_with (λ x y. square (sub binary64 y x)) a b))

-- The distances from a to the first point, and from each point to the next.
unfoldable pub distances : List Float → List (List Float) → List Float
distances a [] = []
distances a (b ∷ bs) = distance a b ∷ distances b bs

-- The sum of the distances from each point to the next.
unfoldable pub path_length : List (List Float) → Float
path_length [] = zero_f
path_length (a ∷ l) = foldl (λ s x. add binary64 s x) zero_f (distances a l)

-- extent: the length of the control polygon, and 0 where that is a NaN.
unfoldable pub extent : ℕ → List Vector → Float
extent dim points = max_f zero_f (path_length (map (λ q. cartesian dim q) points))

-- width().to_f64(): half of twice the width, which an overflow changes.
unfoldable pub to_f64 : Float → Float
to_f64 w = middle (sharp w)

-- The greatest of some sizes, at least 0; a NaN is passed over.
unfoldable pub widest : List Float → Float
widest xs = foldl max_f zero_f xs

-- The greater of w and of each coordinate's width over the middle of the weight.
unfoldable pub carried_by : ℕ → Float → Vector → Float
carried_by dim w q = foldl max_f w (tab dim (λ k. div binary64 (to_f64 (width_s (coordinate q k))) (middle (coordinate q dim))))

-- carried_width: the widest coordinate of any point, over its weight.
unfoldable pub carried_width : ℕ → List Vector → Float
carried_width dim points = foldl (λ w q. carried_by dim w q) zero_f points

-- ---- restriction and stalled, on a domain from a to b

-- restriction: the size definitely exceeds the carried width, the hat is definitely below 4/5 of the domain, and a bound of it lies strictly inside. 4/5 is an interval, and the
-- hat is held to the lower bound of the product.
unfoldable pub restricts : Arithmetic → Float → Float → Scalar → Float → Float → Bool
restricts ar a b hat size carried =
    definitely_greater (sharp size) (sharp carried)
    && definitely_less (sharp (width_s hat)) (ar.mul (sharp (width_s (domain a b))) ar.four_fifths)
    && (in_domain a b hat.lo || in_domain a b hat.hi)

-- stalled: the piece is to be halved. The size definitely exceeds the resolution and the carried width, and the domain's width the resolution.
unfoldable pub halves : Float → Float → Float → Float → Float → Bool
halves a b size carried resolution =
    definitely_greater (sharp size) (sharp (max_f carried resolution))
    && definitely_greater (sharp size) (sharp carried)
    && definitely_greater (sharp (width_s (domain a b))) (sharp resolution)
