-- scalars/mod.rs as the Rust's debug build has it: the operations with the test inside `Scalar::new`. Definitions only.
-- Other files call this one `tested`: `tested.add` is `add_s` with the test of what it forms.
use Rattle.std.specs.Prelude.{ℕ, zero, suc, cond, List, [], ◌∷◌, ◌++◌, Float}
use Rattle.std.specs.Float.Ieee as ieee
use Rattle.std.specs.Float.{binary64}
use Rattle.std.specs.Float.Ieee.{le}
use Rattle.math.specs.declared.scalars.Scalar.{Scalar}
use Rattle.math.specs.Divided.{Divided}
use Rattle.std.specs.Prelude.{Some, None}
use Rattle.math.specs.Neighbours.{next_up, next_down}
use Rattle.math.specs.Picks.{min_f, max_f}
use Rattle.math.specs.Scalars.{one_f, ONE, has_zero, corners, ratio_of, width_s, same_operands}

infixr 10 ◌>>=◌
-- ---- a value, or a test that has fired

-- In the debug build a test that fails ends the program there.
pub data Tested (A : Type 0) : Type 0 where
  fired : Tested A
  fine : A → Tested A

-- One thing after the other: nothing comes after a test that has fired. In a `do` block `x ← m`, or an arrow before an argument, stands for it.
abbrev pub ◌>>=◌ : {A B : Type 0} → Tested A → (A → Tested B) → Tested B
◌>>=◌ fired k = fired
◌>>=◌ (fine a) k = k a

-- ---- lists whose elements are made one after the other

-- f 0, f 1, .. f (n - 1).
unfoldable pub tab : {A : Type 0} → ℕ → (ℕ → Tested A) → Tested (List A)
tab zero f = fine []
tab (suc n) f = do
  l ← tab n f
  x ← f n
  fine (l ++ (x ∷ []))

-- f x for each x of a list.
unfoldable pub map : {A B : Type 0} → (A → Tested B) → List A → Tested (List B)
map f [] = fine []
map f (x ∷ xs) = do
  y ← f x
  ys ← map f xs
  fine (y ∷ ys)

-- f x y for each x and y of two lists.
unfoldable pub zip : {A B C : Type 0} → (A → B → Tested C) → List A → List B → Tested (List C)
zip f [] ys = fine []
zip f (x ∷ xs) [] = fine []
zip f (x ∷ xs) (y ∷ ys) = do
  z ← f x y
  zs ← zip f xs ys
  fine (z ∷ zs)

-- Every x of a list taken in, from b on.
unfoldable pub fold : {A B : Type 0} → (B → A → Tested B) → B → List A → Tested B
fold f b [] = fine b
fold f b (x ∷ xs) = do fold f (← f b x) xs

-- ---- the test

-- Scalar::new: it fires where lo is above hi, and where a bound is a NaN.
unfoldable pub formed : Float → Float → Tested Scalar
formed lo hi = cond (le lo hi) (fine (record { lo = lo; hi = hi })) fired

-- from_f64, from_i64, lower, upper, midpoint. The Rust has no test there; but request E14 speaks of every interval with a NaN bound, so here it has one. (ZERO, ONE, TWO and
-- ENTIRE are constants and need none.)
unfoldable pub sharp : Float → Tested Scalar
sharp v = formed v v

-- ---- the operations, by the Rust's names

-- Both bounds moved outward, in the interval that is formed.
abbrev pub widened : Float → Float → Tested Scalar
widened a b = formed (next_down a) (next_up b)

unfoldable pub add : Scalar → Scalar → Tested Scalar
add x y = widened (ieee.add binary64 x.lo y.lo) (ieee.add binary64 x.hi y.hi)

unfoldable pub sub : Scalar → Scalar → Tested Scalar
sub x y = widened (ieee.sub binary64 x.lo y.hi) (ieee.sub binary64 x.hi y.lo)

unfoldable pub mul : Scalar → Scalar → Tested Scalar
mul x y = let c = corners x y in widened c.lo c.hi

-- The reciprocal in `div`, which is an interval of its own.
unfoldable pub inverse : Scalar → Tested Scalar
inverse y = widened (ieee.div binary64 one_f y.hi) (ieee.div binary64 one_f y.lo)

-- An error where the divisor holds zero, and nothing formed.
unfoldable pub div : Scalar → Scalar → Tested Divided
div x y = cond (has_zero y) (fine None) (do fine (Some (← mul x (← inverse y))))

-- from_ratio(4, 5)
unfoldable pub four_fifths : Tested Scalar
four_fifths = widened (ratio_of 4 5) (ratio_of 4 5)

-- The width is an interval, too.
unfoldable pub width : Scalar → Tested Scalar
width x = formed (width_s x) (width_s x)

-- From the lesser lo to the greater hi.
unfoldable pub union : Scalar → Scalar → Tested Scalar
union x y = formed (min_f x.lo y.lo) (max_f x.hi y.hi)

-- Where the two do not meet, no interval is formed: it is one of them.
unfoldable pub intersect : Scalar → Scalar → Tested Scalar
intersect x y =
    let lo = max_f x.lo y.lo in
    let hi = min_f x.hi y.hi in
    cond (le lo hi) (formed lo hi) (fine (cond (le (ieee.sub binary64 x.hi x.lo) (ieee.sub binary64 y.hi y.lo)) x y))

-- The first operand where both are the same; else the two forms, and what lies in both.
unfoldable pub interpolate : Scalar → Scalar → Scalar → Tested Scalar
interpolate a b t =
    cond (same_operands a b t) (fine a)
    (do intersect (← add a (← mul t (← sub b a))) (← add (← mul (← sub ONE t) a) (← mul t b)))
