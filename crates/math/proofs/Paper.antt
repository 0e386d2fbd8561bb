-- A division's answer on paper, from the definition's. Assumes nothing.
use mathlib.Core.Path.{◌≡◌, refl, sym, ap, ◌∙◌}
use mathlib.Core.Option.{none, some}
use mathlib.Core.Bool.{Bool, true, false, cond}
use Prim.Native.Nat.{ℕ}
use lib.Dec.{eqb}
use Rattle.math.specs.Paper.{quotient_of, quotient_in, Divides, IsRatio}
use Rattle.std.specs.Option.{unwrap_or}
use Rattle.math.specs.Scalars.{value_or, has_zero, div_s, widened, ratio_of, from_ratio}
use Rattle.math.specs.Tight.{div_t}
use Rattle.math.specs.Revision.{arithmetic}
use Rattle.math.specs.declared.scalars.Scalar.{Scalar}
use Rattle.math.specs.Divided.{Divided}
use Rattle.std.specs.Prelude.{Some, None}

-- it is an error where the test fails it
on-paper : (t : Bool) (v : Scalar) → quotient_of (cond t None (Some v)) ≡ cond t none (some v)
on-paper true v = refl
on-paper false v = refl

-- a quotient by the paper is that of the definition
by_paper : (second : Bool) (x y : Scalar) → (arithmetic second).div x y ≡ cond (has_zero y) None (Some (quotient_in second x y))
unfolding div_s div_t quotient_in
by_paper true x y = refl
by_paper false x y = refl

pub divides : (second : Bool) (x y : Scalar) (r : Divided) → r ≡ cond (has_zero y) None (Some (quotient_in second x y)) → Divides second x y r
divides second x y r e = record { result = e ∙ sym (by_paper second x y); paper = ap quotient_of e ∙ on-paper (has_zero y) (quotient_in second x y) }

pub is_ratio : (n d : ℕ) (r : Divided) → r ≡ from_ratio n d → IsRatio n d r
unfolding from_ratio
is_ratio n d r e = record { result = e; paper = ap quotient_of e ∙ on-paper (eqb d 0) (widened (ratio_of n d) (ratio_of n d)) }

-- what a division gave, or d, in the library's words
pub value_or_is : (q : Divided) (d : Scalar) → unwrap_or q d ≡ value_or q d
unfolding value_or
value_or_is (Some x) d = refl
value_or_is None d = refl
