-- Where the pattern of a number leads that goes one double down or stays, as `stepped` has it. Assumes nothing.
use mathlib.Core.Path.{◌≡◌, refl, sym, ap, ◌∙◌, subst}
use mathlib.Core.Logic.{inl, inr}
use mathlib.Core.Bool.{Bool, true, false, not, cond}
use Prim.Native.Nat.{ℕ, ◌+◌, ◌-◌, ◌*◌, ◌/◌, ◌%◌, ◌≤◌, ◌<◌}
use native.Mathlib.Nat.{mul-le-mul}
use native.Mathlib.Omega.{arith}
use lib.Dec.{T, ltb, ltb→lt}
use lib.Ieee.{Float, binary64, is_nan, fits, to_bits, of_bits, nan_bits}
use lib.Ieee.Bits.{of_bits-to_bits, to_bits-lt}
use Rattle.std.specs.Int.{from_bool}
use Rattle.math.specs.Digits.{is_ordinary}
use Rattle.math.specs.Neighbours.{next_down}
use Rattle.math.proofs.Bools.{yes, compare_le, and_both}
use Rattle.math.proofs.Doubles.Steps.{steps-down}
use Rattle.math.proofs.Doubles.Tests.{no-nan_bits}

-- ---- the test
ordinary_is : (b : ℕ) → is_ordinary b ≡ true → (0 < b % 0x8000_0000_0000_0000) × (b % 0x8000_0000_0000_0000 < 0x7ff0_0000_0000_0000)
ordinary_is b e =
    let h = and_both (ltb 0 (b % 0x8000_0000_0000_0000)) (ltb (b % 0x8000_0000_0000_0000) 0x7ff0_0000_0000_0000) e in
    (ltb→lt _ _ (yes _ h.0), ltb→lt _ _ (yes _ h.1))

-- so b is not 0, and below the negative infinity's where it has the sign
pub ordinary_low : (b : ℕ) → is_ordinary b ≡ true → 0 < b
ordinary_low b e = some b (ordinary_is b e).0
  where
    some : (b : ℕ) → 0 < b % 0x8000_0000_0000_0000 → 0 < b
    some b h = omega arith

pub ordinary_high : (b : ℕ) → is_ordinary b ≡ true → b < 0x1_0000_0000_0000_0000 → b < 0xfff0_0000_0000_0000
ordinary_high b e t = under b (ordinary_is b e).1 t
  where
    under : (b : ℕ) → b % 0x8000_0000_0000_0000 < 0x7ff0_0000_0000_0000 → b < 0x1_0000_0000_0000_0000 → b < 0xfff0_0000_0000_0000
    under b h t = omega arith

-- ---- the step
-- b is the pattern of y, and no NaN's
abbrev Shows : ℕ → Float → Type 0
Shows b y = T (not (nan_bits binary64 b)) × (of_bits binary64 b ≡ y)

module _ (x : Float) (F : T (fits binary64 x)) (n : is_nan x ≡ false) where
  own : Shows (to_bits binary64 x) x
  own = let e = of_bits-to_bits binary64 x F in (no-nan_bits (to_bits binary64 x) (ap is_nan e ∙ n), e)

  -- by 1 or 0, as o says
  module _ (o : Bool) (d : ℕ) (e : d ≡ cond o 1 0) where
    leads-down : 0 < to_bits binary64 x → to_bits binary64 x < 0x8000_0000_0000_0000 → Shows (to_bits binary64 x - d) (cond o (next_down x) x)
    leads-down h k = go o e
      where
        go : (o : Bool) → d ≡ cond o 1 0 → Shows (to_bits binary64 x - d) (cond o (next_down x) x)
        go true e = subst (λ (z : ℕ). Shows (to_bits binary64 x - z) (next_down x)) (sym e) ((steps-down x F n).one_down h k)
        go false e = subst (λ (z : ℕ). Shows z x) (stays (to_bits binary64 x) d e) own
          where
            stays : (b d : ℕ) → d ≡ 0 → b ≡ b - d
            stays b d e = omega arith

    leads-up : 0x8000_0000_0000_0000 ≤ to_bits binary64 x → to_bits binary64 x < 0xfff0_0000_0000_0000 → Shows (to_bits binary64 x + d) (cond o (next_down x) x)
    leads-up h k = go o e
      where
        go : (o : Bool) → d ≡ cond o 1 0 → Shows (to_bits binary64 x + d) (cond o (next_down x) x)
        go true e = subst (λ (z : ℕ). Shows (to_bits binary64 x + z) (next_down x)) (sym e) ((steps-down x F n).one_up h k)
        go false e = subst (λ (z : ℕ). Shows z x) (stays (to_bits binary64 x) d e) own
          where
            stays : (b d : ℕ) → d ≡ 0 → b ≡ b + d
            stays b d e = omega arith

    -- and by the sign, which is the whole part of the pattern over 2 ^ 63
    pub leads : is_ordinary (to_bits binary64 x) ≡ true → Shows (to_bits binary64 x + d * (to_bits binary64 x / 0x8000_0000_0000_0000) * 2 - d) (cond o (next_down x) x)
    leads h = elim (compare_le 0x8000_0000_0000_0000 (to_bits binary64 x)) [
      | inl g ↦ subst (λ (z : ℕ). Shows z (cond o (next_down x) x)) (sym (minus (to_bits binary64 x) g (to_bits-lt binary64 x F))) (leads-up g (ordinary_high (to_bits binary64 x) h (to_bits-lt binary64 x F)))
      | inr l ↦ subst (λ (z : ℕ). Shows z (cond o (next_down x) x)) (sym (plus (to_bits binary64 x) l)) (leads-down (ordinary_low (to_bits binary64 x) h) l)
    ]
      where
        minus : (b : ℕ) → 0x8000_0000_0000_0000 ≤ b → b < 0x1_0000_0000_0000_0000 → b + d * (b / 0x8000_0000_0000_0000) * 2 - d ≡ b + d
        minus b g t = ap (λ (z : ℕ). b + d * z * 2 - d) (one b g t) ∙ sum b d
          where
            one : (b : ℕ) → 0x8000_0000_0000_0000 ≤ b → b < 0x1_0000_0000_0000_0000 → b / 0x8000_0000_0000_0000 ≡ 1
            one b g t = omega arith

            sum : (b d : ℕ) → b + d * 1 * 2 - d ≡ b + d
            sum b d = omega arith

        plus : (b : ℕ) → b < 0x8000_0000_0000_0000 → b + d * (b / 0x8000_0000_0000_0000) * 2 - d ≡ b - d
        plus b l = ap (λ (z : ℕ). b + d * z * 2 - d) (none b l) ∙ rest b d
          where
            none : (b : ℕ) → b < 0x8000_0000_0000_0000 → b / 0x8000_0000_0000_0000 ≡ 0
            none b l = omega arith

            rest : (b d : ℕ) → b + d * 0 * 2 - d ≡ b - d
            rest b d = omega arith

-- what is added fits
pub step_is : (d : ℕ) (o : Bool) → d ≡ from_bool o → d ≡ cond o 1 0
step_is d true e = e
step_is d false e = e

pub step_most : (d : ℕ) (o : Bool) → d ≡ from_bool o → d ≤ 1
step_most d true e = omega arith
step_most d false e = omega arith

pub twice-fits : (d b : ℕ) → d ≤ 1 → b < 0x1_0000_0000_0000_0000 → d * (b / 0x8000_0000_0000_0000) ≤ 1
twice-fits d b h t = mul-le-mul h (most b t)
  where
    most : (b : ℕ) → b < 0x1_0000_0000_0000_0000 → b / 0x8000_0000_0000_0000 ≤ 1
    most b t = omega arith

-- a NaN stays
pub same_either : (x y : Float) (o : Bool) → x ≡ y → x ≡ cond o y x
same_either x y true e = e
same_either x y false e = refl
