-- What soundness needs of an arithmetic: results that hold the exact result whenever the operands hold the exact operands. Definitions only.
use Rattle.std.specs.Prelude.{◌≡◌, ◌↔◌, Bool, true, false, not, ◌&&◌, ◌||◌, pos, T, Float}
use Rattle.std.specs.Float.{fin, binary64}
use Rattle.std.specs.Float.Ieee.{lt, le, fits}
use Rattle.exact.specs.Rational.{ℚ, ◌+ℚ◌, ◌-ℚ◌, ◌*ℚ◌, 0ℚ, invℚ, ◌÷◌}
use Rattle.math.specs.declared.scalars.Scalar.{Scalar}
use Rattle.std.specs.Prelude.{Some, None}
use Rattle.math.specs.Scalars.{Arithmetic, sharp, ENTIRE, ZERO, ONE, is_same}
use Rattle.math.specs.Values.{Holds, Proper}

-- ENTIRE times [0, 0], in either order: the one product whose four corners are all NaN
abbrev pub is_clash : Scalar → Scalar → Bool
is_clash x y = (is_same x ENTIRE && is_same y ZERO) || (is_same x ZERO && is_same y ENTIRE)

-- a number of size at most 2 ^ 100, which is what the search takes
abbrev pub is_moderate : Float → Bool
is_moderate x = le (fin true 1 (pos 100)) x && le x (fin false 1 (pos 100))

-- three doubles: t lies strictly between a and b, and neither of those is large
pub record Between (a t b : Float) : Type 0 where
  pub double_a : T (fits binary64 a)
  pub double_t : T (fits binary64 t)
  pub double_b : T (fits binary64 b)
  pub moderate_a : T (is_moderate a)
  pub moderate_b : T (is_moderate b)
  pub from : T (lt a t)
  pub upto : T (lt t b)

pub record Encloses (ar : Arithmetic) : Type 0 where
  -- the products that are not enclosed
  pub exempt : Scalar → Scalar → Bool
  -- ---- sum, difference, product, quotient, 4 / 5
  pub add_holds : (a b : Scalar) (x y : ℚ) → Holds a x → Holds b y → Holds (ar.add a b) (x +ℚ y)
  pub sub_holds : (a b : Scalar) (x y : ℚ) → Holds a x → Holds b y → Holds (ar.sub a b) (x -ℚ y)
  pub mul_holds : (a b : Scalar) (x y : ℚ) → T (not (exempt a b)) → Holds a x → Holds b y → Holds (ar.mul a b) (x *ℚ y)
  pub div_holds : (a b c : Scalar) (x y : ℚ) → ar.div a b ≡ Some c → Holds a x → Holds b y → Holds c (x *ℚ invℚ y)
  -- an error exactly where the divisor holds zero
  pub div_fails : (a b : Scalar) → ar.div a b ≡ None ↔ Holds b 0ℚ
  pub ratio_holds : Holds ar.four_fifths (4 ÷ 5)
  -- ---- nothing but ENTIRE times [0, 0] is exempt, and a search never multiplies these two
  pub exempt_only : (a b : Scalar) → T (exempt a b) → T (is_clash a b)
  -- a quotient times a difference
  pub slope_clear : (a b s c d : Scalar) (x y z w : ℚ) → ar.div a b ≡ Some s → Holds a x → Holds b y → Holds c z → Holds d w → T (not (exempt s (ar.sub c d)))
  -- how far t lies along the way from a to b, or how far it is from b, times anything
  pub alpha_clear : (a t b : Float) (f s : Scalar) → Between a t b → ar.div (ar.sub (sharp t) (sharp a)) (ar.sub (sharp b) (sharp a)) ≡ Some f → T (not (exempt f s))
  pub rest_clear : (a t b : Float) (f s : Scalar) → Between a t b → ar.div (ar.sub (sharp t) (sharp a)) (ar.sub (sharp b) (sharp a)) ≡ Some f → T (not (exempt (ar.sub ONE f) s))
  -- ---- what is between two doubles parts them, and the bounds of a difference are doubles
  pub gap : (a t b : Float) → Between a t b → Holds (ar.sub (sharp b) (sharp a)) 0ℚ → ⊥
  pub sub_doubles : (a b : Scalar) → T (fits binary64 (ar.sub a b).lo) × T (fits binary64 (ar.sub a b).hi)

-- no product of `interpolate` is exempt
pub record Tame (ar : Arithmetic) (E : Encloses ar) (a b t : Scalar) : Type 0 where
  pub delta : T (not (E.exempt t (ar.sub b a)))
  pub first : T (not (E.exempt (ar.sub ONE t) a))
  pub second : T (not (E.exempt t b))

-- What order needs of an arithmetic: results are in order wherever the operands are, but for the products that are exempt. Every arithmetic that encloses has this (`in_order_lem`).
pub record InOrder (ar : Arithmetic) (exempt : Scalar → Scalar → Bool) : Type 0 where
  pub add_proper : (a b : Scalar) → Proper a → Proper b → Proper (ar.add a b)
  pub sub_proper : (a b : Scalar) → Proper a → Proper b → Proper (ar.sub a b)
  pub mul_proper : (a b : Scalar) → Proper a → Proper b → T (not (exempt a b)) → Proper (ar.mul a b)
  pub div_proper : (a b c : Scalar) → Proper a → Proper b → ar.div a b ≡ Some c → Proper c
  pub ratio_proper : Proper ar.four_fifths
