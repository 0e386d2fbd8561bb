-- The rational numbers: fractions up to `◌~◌`, as a set quotient, so that `≡` is the equality of numbers. Their operations, their order, and the numbers that
-- whole numbers and IEEE 754's finite values are. Everything exact in these crates is said of these numbers.
use Rattle.std.specs.Prelude.{◌≡◌, Bool, true, false, ℕ, pred, T, ℤ, pos}
use Rattle.std.proofs.Common.{sym, ◌∙◌, ap}
use Rattle.std.proofs.Math.Bool.{Bool-set}
use Rattle.std.proofs.Math.Dec.{T_prop}
use Rattle.std.specs.Float.Ieee.{up, down}
use std.Quotient as Quotient
use std.Quotient.{cls, eq/, /_set, /_rec, /_rec₂, /_map}
use Rattle.exact.specs.Fraction.{Frac, ◌~◌, add_f, add_f_l, add_f_r, mul_f, mul_f_l, mul_f_r, neg_f, neg_f_~, is_pos, is_pos_mul, inv_n, inv_n_~}

unfoldable pub ℚ : Type 0
ℚ = Quotient.◌/◌ Frac ◌~◌

-- the number that a fraction is
unfoldable pub mk : Frac → ℚ
unfolding ℚ
mk f = cls f

unfoldable pub 0ℚ : ℚ
0ℚ = mk (pos 0, 0)

unfoldable pub 1ℚ : ℚ
1ℚ = mk (pos 1, 0)

-- ---- sum, product, difference

-- an operation on fractions that respects `◌~◌` is one on numbers
unfoldable pub lift₂ : (op : Frac → Frac → Frac) → ((f f' g : Frac) → f ~ f' → op f g ~ op f' g) → ((g f f' : Frac) → f ~ f' → op g f ~ op g f') → ℚ → ℚ → ℚ
unfolding ℚ /_rec₂
lift₂ op l r = /_rec₂ /_set (λ a b. cls (op a b)) (λ a a' b h. eq/ (op a b) (op a' b) (l a a' b h)) (λ a b b' h. eq/ (op a b) (op a b') (r a b b' h))

infixl 6 ◌+ℚ◌ ◌-ℚ◌
infixl 7 ◌*ℚ◌ ◌÷◌
infix 8 -ℚ◌
unfoldable pub ◌+ℚ◌ : ℚ → ℚ → ℚ
◌+ℚ◌ = lift₂ add_f add_f_l add_f_r

unfoldable pub ◌*ℚ◌ : ℚ → ℚ → ℚ
◌*ℚ◌ = lift₂ mul_f mul_f_l mul_f_r

unfoldable pub -ℚ◌ : ℚ → ℚ
unfolding ℚ /_map
-ℚ◌ = /_map neg_f neg_f_~

abbrev pub ◌-ℚ◌ : ℚ → ℚ → ℚ
x -ℚ y = x +ℚ -ℚ y

-- ---- the inverse; that of zero is zero
unfoldable pub invℚ : ℚ → ℚ
unfolding ℚ /_rec
invℚ = /_rec /_set (λ f. cls (inv_n f.0 f.1)) (λ f g h. eq/ (inv_n f.0 f.1) (inv_n g.0 g.1) (inv_n_~ f.0 g.0 f.1 g.1 h))

-- ---- the order

-- x is at least zero, as a test
unfoldable pub nonneg : ℚ → Bool
unfolding ℚ /_rec
nonneg = /_rec Bool-set (λ f. is_pos f.0) (λ f g h. sym (is_pos_mul f.0 g.1) ∙ ap is_pos h ∙ is_pos_mul g.0 f.1)

-- x is at least zero
pub record Nn (x : ℚ) : Type 0 where
  sign : T (nonneg x)

infix 4 ◌≤ℚ◌ ◌<ℚ◌
-- y - x is at least zero
pub record ◌≤ℚ◌ (x y : ℚ) : Type 0 where
  gap : Nn (y -ℚ x)

pub record ◌<ℚ◌ (x y : ℚ) : Type 0 where
  above : ¬ (y ≤ℚ x)

-- ---- numbers from whole numbers

-- a / c, for a c above 0
unfoldable pub ◌÷◌ : ℕ → ℕ → ℚ
a ÷ c = mk (pos a, pred c)

-- a whole number
abbrev pub whole : ℕ → ℚ
whole n = n ÷ 1

-- x, or -x where the sign is set
abbrev pub signed : Bool → ℚ → ℚ
signed true x = -ℚ x
signed false x = x

-- 2 ^ e, for a negative e too
abbrev pub pow2 : ℤ → ℚ
pow2 e = up e ÷ down e

-- ---- between two numbers

-- x at a = 0, y at a = 1
unfoldable pub lerp : ℚ → ℚ → ℚ → ℚ
lerp a x y = (1ℚ -ℚ a) *ℚ x +ℚ a *ℚ y

-- where t lies between u and v: 0 at u, 1 at v
unfoldable pub ratio : ℚ → ℚ → ℚ → ℚ
ratio t u v = (t -ℚ u) *ℚ invℚ (v -ℚ u)

-- ---- into these types and out of them: their fields are private, so that no proof search looks behind an order

pub same : (f g : Frac) → f ~ g → mk f ≡ mk g
unfolding ℚ mk
same f g h = eq/ f g h

pub Nn-prop : (x : ℚ) → IsProp (Nn x)
Nn-prop x p q = λ i. record { sign = T_prop (nonneg x) p.sign q.sign i }

pub nn_in : {x : ℚ} → T (nonneg x) → Nn x
nn_in t = record { sign = t }

pub nn_out : {x : ℚ} → Nn x → T (nonneg x)
nn_out h = h.sign

pub le_in : {x y : ℚ} → Nn (y -ℚ x) → x ≤ℚ y
le_in h = record { gap = h }

pub nn_of : {x y : ℚ} → x ≤ℚ y → Nn (y -ℚ x)
nn_of h = h.gap

pub not_le→lt : {x y : ℚ} → ¬ (x ≤ℚ y) → y <ℚ x
not_le→lt h = record { above = h }

pub lt→not_le : {x y : ℚ} → x <ℚ y → ¬ (y ≤ℚ x)
lt→not_le h = h.above
