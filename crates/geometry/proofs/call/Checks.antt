-- Laws behind the checks of a call: knots that rise, one by one, and the checks in their order. Assumes nothing.
use mathlib.Core.Path.{◌≡◌, refl, sym, ap, ◌∙◌}
use mathlib.Core.Bool.{Bool, true, false, ◌&&◌, true≢false}
use mathlib.Core.List.{List, [], ◌∷◌}
use Prim.Native.Nat.{ℕ, zero, suc, ◌+◌, ◌*◌, ◌≤◌, ◌<◌}
use native.Mathlib.Nat.{le_trans, le_of_eq, mul_assoc, mul-le-mul_left, mul-le-mul_right}
use native.Mathlib.Omega.{arith}
use borrow.Author.Tests.{eqb-true}
use lib.Dec.{eqb}
use lib.ListN.{length, get_or}
use lib.Ieee.{Float, nan, le}
use Rattle.model.specs.Layout.{slot_words}
use Rattle.model.specs.Call.{rising}

-- ---- two tests that both have to pass
and-stop : (t u : Bool) → t ≡ false → false ≡ t && u
and-stop t u e = sym (ap (λ (b : Bool). b && u) e)

and_both : (t u : Bool) → t ≡ true → u ≡ true → t && u ≡ true
and_both t u e f = ap (λ (b : Bool). b && u) e ∙ f

-- ---- rising knots, one by one
rising_each : (l : List Float) → ((k : ℕ) → suc k < length l → le (get_or l k nan) (get_or l (suc k) nan) ≡ true)
    → rising l ≡ true
unfolding rising
rising_each [] f = refl
rising_each (a ∷ []) f = refl
rising_each (a ∷ b ∷ l) f = and_both _ _ (f 0 (omega arith)) (rising_each (b ∷ l) (λ k h. f (suc k) (omega arith)))

rising_miss : (l : List Float) (k : ℕ) → suc k < length l → le (get_or l k nan) (get_or l (suc k) nan) ≡ false
    → rising l ≡ false
unfolding rising
rising_miss [] k h e = absurd (omega arith)
rising_miss (a ∷ []) k h e = absurd (omega arith)
rising_miss (a ∷ b ∷ l) zero h e = sym (and-stop _ _ e)
rising_miss (a ∷ b ∷ l) (suc k) h e = ap (λ (t : Bool). le a b && t) (rising_miss (b ∷ l) k (omega arith) e) ∙ never (le a b)
  where
    never : (t : Bool) → t && false ≡ false
    never true = refl
    never false = refl

-- an answer that is true where each knot is not above the next, and false where one is
pub rising_by : (l : List Float) (t : Bool)
    → (t ≡ true → (k : ℕ) → suc k < length l → le (get_or l k nan) (get_or l (suc k) nan) ≡ true)
    → (t ≡ false → (k : ℕ) × (suc k < length l) × (le (get_or l k nan) (get_or l (suc k) nan) ≡ false))
    → t ≡ rising l
rising_by l true f g = sym (rising_each l (f refl))
rising_by l false f g = let m = g refl in sym (rising_miss l m.0 m.1 m.2)

-- ---- the words of a slot are few
pub few-points : (d n p : ℕ) → d ≤ 3 → n ≤ 32 → p ≤ 7 → (2 * (d + 1) * n ≤ 256) × (2 * (d + 1) * (n + p + 1) ≤ 320)
few-points d n p h k l = (le_trans (mul-le-mul (2 * (d + 1)) 8 n 32 (omega arith) k) (omega arith), le_trans (mul-le-mul (2 * (d + 1)) 8 (n + p + 1) 40 (omega arith) (omega arith)) (omega arith))
  where
    mul-le-mul : (a b c e : ℕ) → a ≤ b → c ≤ e → a * c ≤ b * e
    mul-le-mul a b c e u v = le_trans (mul-le-mul_left a v) (mul-le-mul_right e u)

pub slot-words : (d p n : ℕ) → 2 * (d + 1) * (n + p + 1) + 2 * (n + 2 * p + 2) + 1 ≡ slot_words d p n
unfolding slot_words
slot-words d p n = ap (λ (k : ℕ). 2 * k * (n + p + 1) + 2 * (n + 2 * p + 2) + 1) eq
  where
    eq : d + 1 ≡ suc d
    eq = omega arith

-- ---- what the first checks leave
both : (t u : Bool) → t && u ≡ true → (t ≡ true) × (u ≡ true)
both true u e = (refl, e)
both false u e = absurd (true≢false (sym e))

pub lengths_are : (k p n m d b i : ℕ) → eqb k (n + p + 1) && eqb m (2 * suc d * n) && eqb b (2 * i) ≡ true → (k ≡ n + p + 1) × (2 * (suc d * n) ≤ m) × (2 * i ≤ b)
lengths_are k p n m d b i e =
    let x = both (eqb k (n + p + 1) && eqb m (2 * suc d * n)) (eqb b (2 * i)) e in
    let y = both (eqb k (n + p + 1)) (eqb m (2 * suc d * n)) x.0 in
    (eqb-true _ _ y.0, le_of_eq (sym (eqb-true _ _ y.1 ∙ mul_assoc 2 (suc d) n)), le_of_eq (sym (eqb-true _ _ x.1)))

-- the stated words of any call are few
pub area-few : (k d p n w : ℕ) → w ≡ slot_words d p n → k ≤ 4096 → d ≤ 3 → p ≤ 7 → n ≤ 32 → (k + 3) * w ≤ 4099 * 420
area-few k d p n w e h dh ph nh = le_trans (mul-le-mul_left (k + 3) small) (mul-le-mul_right 420 wide)
  where
    small : w ≤ 420
    small = omega (arith, e, slot-words d p n, (few-points d n p dh nh ph).1)

    wide : k + 3 ≤ 4099
    wide = omega arith
