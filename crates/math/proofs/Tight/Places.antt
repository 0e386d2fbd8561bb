-- A double is a whole number of some unit 2 ^ j * 2 ^ -1074, with fewer than 54 binary digits, and every number that is so is a double. So the next multiple of its unit is a
-- double, too, but behind the greatest one. Assumes nothing.
use mathlib.Core.Path.{◌≡◌, refl, sym, ap, ap₂, ◌∙◌, subst}
use mathlib.Core.List.{[], ◌∷◌}
use mathlib.Core.Logic.{◌⊎◌, inl, inr}
use mathlib.Core.Bool.{Bool, true, false, not}
use Prim.Native.Nat.{ℕ, zero, suc, ◌+◌, ◌-◌, ◌*◌, ◌^◌, ◌≤◌, ◌<◌}
use native.Mathlib.Nat.{le_refl as ≤-self, le_of_eq, le_trans as ≤-then, lt_of_le_of_lt, lt_of_lt_of_le, eq-or-lt_of_le, mul_assoc, mul-le-mul_right, mul-lt-mul_of_pos_right, lt_of_mul-lt-mul_right, mul-le-mul_left, pow-succ'}
use native.Mathlib.Omega.{arith}
use lib.IntN.{ℤ}
use lib.Dec.{T, lit<}
use lib.Pow.{pow-add, pow_pos, pow_mono}
use lib.Ieee.{Float, nan, inf, fin, binary64, low, up, down, fits, round}
use lib.Ieee.Fits.{down_pos, round-fits}
use lib.Ieee.Exact.{HasValue, round_exact}
use Rattle.solver.proofs.Ring.{by_rep, by_eq, read}
use Rattle.exact.specs.Rational.{ℚ, ◌+ℚ◌, ◌*ℚ◌, -ℚ◌, ◌-ℚ◌, 0ℚ, 1ℚ, ◌÷◌, whole, signed, ◌≤ℚ◌, ◌<ℚ◌, Nn, nn_of, lt→not_le}
use Rattle.exact.proofs.Field.{ℚring, nn_mul, nn_add}
use Rattle.exact.proofs.Order.{le_by, nn_le}
use Rattle.exact.proofs.Embed.{÷_eq, ÷_le, ÷_mul, ÷_add, ÷_nn, ÷_pos, ÷_one, ÷_zero}
use Rattle.math.specs.Values.{value}
use Rattle.math.proofs.Bools.{compare_le}
use Rattle.math.proofs.Doubles.Values.{value_is, value_zero}
use Rattle.math.proofs.Doubles.Held.{Held, held}

-- ---- the units
abbrev pub unit : ℕ → ℚ
unit j = 2 ^ j ÷ 2 ^ low binary64

pub unit-pos : (j : ℕ) → 0ℚ <ℚ unit j
unit-pos j = ÷_pos (2 ^ j) (2 ^ low binary64) (pow_pos j) (pow_pos (low binary64))

-- m units
pub units-are : (m j : ℕ) → (m * 2 ^ j) ÷ 2 ^ low binary64 ≡ whole m *ℚ unit j
units-are m j = sym (÷_mul m (2 ^ j) 1 (2 ^ low binary64) (omega arith) (pow_pos (low binary64)) ∙ ap (λ (z : ℕ). (m * 2 ^ j) ÷ z) (one (2 ^ low binary64)))
  where
    one : (z : ℕ) → 1 * z ≡ z
    one z = omega arith

-- ---- whole numbers
pub whole-suc : (m : ℕ) → whole (suc m) ≡ whole m +ℚ 1ℚ
whole-suc m = ap whole (more m) ∙ sym (÷_add m 1 1 (omega arith)) ∙ ap (λ (z : ℚ). whole m +ℚ z) ÷_one
  where
    more : (m : ℕ) → suc m ≡ m + 1
    more m = omega arith

-- ---- a whole number of u, as a difference of two
pub record Multiple (u v : ℚ) : Type 0 where
  pub more : ℕ
  pub less : ℕ
  pub is : v ≡ (whole more -ℚ whole less) *ℚ u

pub multiple_sum : {u v w : ℚ} → Multiple u v → Multiple u w → Multiple u (v +ℚ w)
multiple_sum {u} {v} {w} x y = record {
  more = x.more + y.more;
  less = x.less + y.less;
  is = ap₂ ◌+ℚ◌ x.is y.is ∙ join (whole x.more) (whole x.less) (whole y.more) (whole y.less) ∙ ap₂ (λ (p q : ℚ). (p -ℚ q) *ℚ u) (÷_add x.more y.more 1 (omega arith)) (÷_add x.less y.less 1 (omega arith));
}
  where
    join : (a b c d : ℚ) → (a -ℚ b) *ℚ u +ℚ (c -ℚ d) *ℚ u ≡ (a +ℚ c -ℚ (b +ℚ d)) *ℚ u
    join a b c d = by_rep ℚring (a ∷ b ∷ c ∷ d ∷ u ∷ []) (search read depth 9) (search read depth 9) tt

pub multiple_neg : {u v : ℚ} → Multiple u v → Multiple u (-ℚ v)
multiple_neg {u} {v} x = record { more = x.less; less = x.more; is = ap (λ (z : ℚ). -ℚ z) x.is ∙ by_rep ℚring (u ∷ whole x.more ∷ whole x.less ∷ []) (search read depth 9) (search read depth 9) tt }

-- one that is above zero is at least u
pub multiple_least : {u v : ℚ} → 0ℚ ≤ℚ u → Multiple u v → 0ℚ <ℚ v → u ≤ℚ v
multiple_least {u} {v} h x k = elim (compare_le x.more x.less) [
  | inl l ↦ absurd (lt→not_le k (le_by (nn_mul (whole x.less -ℚ whole x.more) u (nn_of (÷_le x.more x.less 1 1 (omega arith) (omega arith) (wide l))) (nn_le h)) (by_eq ℚring (-ℚ 1ℚ) x.is (by_rep ℚring (u ∷ v ∷ whole x.more ∷ whole x.less ∷ []) (search read depth 9) (search read depth 9) tt))))
  | inr l ↦ le_by (nn_mul (whole x.more -ℚ (whole x.less +ℚ 1ℚ)) u (nn_of (subst (λ (z : ℚ). z ≤ℚ whole x.more) (whole-suc x.less) (÷_le (suc x.less) x.more 1 1 (omega arith) (omega arith) (wide l)))) (nn_le h)) (by_eq ℚring 1ℚ x.is (by_rep ℚring (u ∷ v ∷ whole x.more ∷ whole x.less ∷ []) (search read depth 9) (search read depth 9) tt))
]
  where
    wide : {m n : ℕ} → m ≤ n → m * 1 ≤ n * 1
    wide h = omega arith

-- ---- where a double stands: ± m units, and 2045 is the unit of the greatest ones
pub record Place (v : ℚ) : Type 0 where
  pub s : Bool
  pub m : ℕ
  pub j : ℕ
  pub digits : m < 2 ^ 53
  pub fine : j ≤ 2045
  pub is : v ≡ signed s (whole m *ℚ unit j)

signed-nil : (s : Bool) (u : ℚ) → signed s (whole 0 *ℚ u) ≡ 0ℚ
signed-nil false u = by_eq ℚring u (÷_zero 1) (by_rep ℚring (u ∷ whole 0 ∷ []) (search read) (search read) tt)
signed-nil true u = by_eq ℚring (-ℚ u) (÷_zero 1) (by_rep ℚring (u ∷ whole 0 ∷ []) (search read) (search read) tt)

-- a coarse unit is a whole number of fine ones
pub finer : (m j k : ℕ) → k ≤ j → whole m *ℚ unit j ≡ whole (m * 2 ^ (j - k)) *ℚ unit k
finer m j k h = sym (units-are m j) ∙ ap (λ (z : ℕ). z ÷ 2 ^ low binary64) same ∙ units-are (m * 2 ^ (j - k)) k
  where
    back : j - k + k ≡ j
    back = omega arith

    same : m * 2 ^ j ≡ m * 2 ^ (j - k) * 2 ^ k
    same = ap (λ (z : ℕ). m * 2 ^ z) (sym back) ∙ ap (λ (z : ℕ). m * z) (pow-add 2 (j - k) k) ∙ sym (mul_assoc m (2 ^ (j - k)) (2 ^ k))

pub place : (s : Bool) (m : ℕ) (e : ℤ) → T (fits binary64 (fin s m e)) → Place (value (fin s m e))
place s zero e F = record { s = s; m = 0; j = 2045; digits = pow_pos 53; fine = ≤-self 2045; is = value_zero s e ∙ sym (signed-nil s (unit 2045)) }
place s (suc m) e F = elim (compare_le h.j 2045) [
  | inl l ↦ record { s = s; m = suc m; j = h.j; digits = h.digits; fine = l; is = at }
  | inr l ↦ record { s = s; m = suc m * 2 ^ (h.j - 2045); j = 2045; digits = short l; fine = ≤-self 2045; is = at ∙ ap (signed s) (finer (suc m) h.j 2045 (less l)) }
]
  where
    h : Held binary64 (suc m) e
    h = held binary64 s m e F

    at : value (fin s (suc m) e) ≡ signed s (whole (suc m) *ℚ unit h.j)
    at = unfold value in ap (signed s) (÷_eq (suc m * up e) (suc m * 2 ^ h.j) (down e) (2 ^ low binary64) (down_pos e) (pow_pos (low binary64)) h.is ∙ units-are (suc m) h.j)

    less : 2045 < h.j → 2045 ≤ h.j
    less l = omega arith

    short : 2045 < h.j → suc m * 2 ^ (h.j - 2045) < 2 ^ 53
    short l = lt_of_mul-lt-mul_right (2 ^ 2045) (lt_of_le_of_lt (le_of_eq (sym same)) (lt_of_lt_of_le h.under (le_of_eq (pow-add 2 53 2045))))
      where
        back : h.j - 2045 + 2045 ≡ h.j
        back = omega arith

        same : suc m * 2 ^ h.j ≡ suc m * 2 ^ (h.j - 2045) * 2 ^ 2045
        same = ap (λ (z : ℕ). suc m * 2 ^ z) (sym back) ∙ ap (λ (z : ℕ). suc m * z) (pow-add 2 (h.j - 2045) 2045) ∙ sym (mul_assoc (suc m) (2 ^ (h.j - 2045)) (2 ^ 2045))

-- ---- the double that has a place
pub record Double (v : ℚ) : Type 0 where
  pub s : Bool
  pub m : ℕ
  pub e : ℤ
  pub held : T (fits binary64 (fin s m e))
  pub is : value (fin s m e) ≡ v

taken : (x : Float) (s : Bool) (a : ℕ) (v : ℚ) → T (fits binary64 x) → HasValue x s a (2 ^ low binary64) → signed s (a ÷ 2 ^ low binary64) ≡ v → Double v
taken nan s a v F h e = absurd h
taken (inf t) s a v F h e = absurd h
taken (fin t n d) s a v F h e = record { s = t; m = n; e = d; held = F; is = value_is (fin t n d) s a (2 ^ low binary64) (pow_pos (low binary64)) h ∙ e }

pub double : (s : Bool) (m j : ℕ) → m < 2 ^ 53 → m * 2 ^ j < 2 ^ 2098 → Double (signed s (whole m *ℚ unit j))
double s m j d h =
    taken (round binary64 s (m * 2 ^ j) (2 ^ low binary64)) s (m * 2 ^ j) _ (round-fits binary64 s (m * 2 ^ j) (2 ^ low binary64))
    (round_exact binary64 s (m * 2 ^ j) (2 ^ low binary64) m j (pow_pos (low binary64)) d h refl)
    (ap (signed s) (units-are m j))

double_at : (v w : ℚ) → v ≡ w → Double v → Double w
double_at v w e d = subst (λ (z : ℚ). Double z) e d

-- the next multiple of the unit above: there is one, but above the greatest double
abbrev pub Top : {v : ℚ} → Place v → Type 0
Top p = (p.s ≡ false) × (suc p.m ≡ 2 ^ 53) × (p.j ≡ 2045)

step-up : (v : ℚ) (m j : ℕ) → m < 2 ^ 53 → suc m * 2 ^ j < 2 ^ 2098 → v ≡ whole m *ℚ unit j → Double (v +ℚ unit j)
step-up v m j d h e = elim (eq-or-lt_of_le d) [
  | inl q ↦ double_at _ _ (finer (2 ^ 52) (suc j) j (omega arith) ∙ ap (λ (z : ℕ). whole z *ℚ unit j) (turn q) ∙ next) (double false (2 ^ 52) (suc j) (lit< tt) (subst (λ (z : ℕ). z < 2 ^ 2098) (same q) h))
  | inr l ↦ double_at _ _ next (double false (suc m) j l h)
]
  where
    next : whole (suc m) *ℚ unit j ≡ v +ℚ unit j
    next = by_eq ℚring (unit j) (whole-suc m) (by_eq ℚring (-ℚ 1ℚ) e (by_rep ℚring (v ∷ whole m ∷ whole (suc m) ∷ unit j ∷ []) (search read depth 9) (search read depth 9) tt))

    one : suc j - j ≡ 1
    one = omega arith

    turn : suc m ≡ 2 ^ 53 → 2 ^ 52 * 2 ^ (suc j - j) ≡ suc m
    turn q = ap (λ (z : ℕ). 2 ^ 52 * 2 ^ z) one ∙ sym q

    same : suc m ≡ 2 ^ 53 → suc m * 2 ^ j ≡ 2 ^ 52 * 2 ^ suc j
    same q = ap (λ (z : ℕ). z * 2 ^ j) q ∙ mul_assoc (2 ^ 52) 2 (2 ^ j) ∙ ap (λ (z : ℕ). 2 ^ 52 * z) (sym (pow-succ' 2 j))

step_back : (v : ℚ) (m j : ℕ) → m < 2 ^ 53 → m * 2 ^ j < 2 ^ 2098 → v ≡ -ℚ (whole (suc m) *ℚ unit j) → Double (v +ℚ unit j)
step_back v m j d h e = double_at _ _ (by_eq ℚring (unit j) (whole-suc m) (by_eq ℚring (-ℚ 1ℚ) e (by_rep ℚring (v ∷ whole m ∷ whole (suc m) ∷ unit j ∷ []) (search read depth 9) (search read depth 9) tt))) (double true m j d h)

pub under_top : (m j : ℕ) → m < 2 ^ 53 → j ≤ 2045 → m * 2 ^ j < 2 ^ 2098
under_top m j d f = lt_of_lt_of_le (mul-lt-mul_of_pos_right d (pow_pos j)) (≤-then (mul-le-mul_left (2 ^ 53) (pow_mono f)) (le_of_eq (sym (pow-add 2 53 2045))))

-- with a unit that is not the greatest, or digits to spare
room : (m j : ℕ) → m < 2 ^ 53 → j ≤ 2045 → (suc m * 2 ^ j < 2 ^ 2098) ⊎ ((suc m ≡ 2 ^ 53) × (j ≡ 2045))
room m j d f = go (eq-or-lt_of_le d) (eq-or-lt_of_le f)
  where
    go : (suc m ≡ 2 ^ 53) ⊎ (suc m < 2 ^ 53) → (j ≡ 2045) ⊎ (j < 2045) → (suc m * 2 ^ j < 2 ^ 2098) ⊎ ((suc m ≡ 2 ^ 53) × (j ≡ 2045))
    go (inl q) (inl k) = inr (q, k)
    go (inr l) k = inl (under_top (suc m) j l f)
    go (inl q) (inr k) = inl (lt_of_le_of_lt (mul-le-mul_right (2 ^ j) (le_of_eq q)) (lt_of_le_of_lt (mul-le-mul_left (2 ^ 53) (pow_mono (back k))) (subst (λ (z : ℕ). z < 2 ^ 2098) (pow-add 2 53 2044) (lit< tt))))
      where
        back : j < 2045 → j ≤ 2044
        back k = omega arith

pub above : {v : ℚ} (p : Place v) → Double (v +ℚ unit p.j) ⊎ Top p
above {v} p = go p.s p.m p.is p.digits refl refl
  where
    go : (s : Bool) (m : ℕ) → v ≡ signed s (whole m *ℚ unit p.j) → m < 2 ^ 53 → p.s ≡ s → p.m ≡ m → Double (v +ℚ unit p.j) ⊎ Top p
    go false m e d es em = elim (room m p.j d p.fine) [
      | inl r ↦ inl (step-up v m p.j d r e)
      | inr r ↦ inr (es, ap suc em ∙ r.0, r.1)
    ]
    go true zero e d es em = inl (step-up v 0 p.j (pow_pos 53) (under_top 1 p.j (lit< tt) p.fine) (e ∙ signed-nil true (unit p.j) ∙ sym (signed-nil false (unit p.j))))
    go true (suc m) e d es em = inl (step_back v m p.j (less m d) (under_top m p.j (less m d) p.fine) e)
      where
        less : (m : ℕ) → suc m < 2 ^ 53 → m < 2 ^ 53
        less m d = omega arith

-- ---- the mirror image
pub signed-not : (s : Bool) (u : ℚ) → signed (not s) u ≡ -ℚ signed s u
signed-not true u = by_rep ℚring (u ∷ []) (search read) (search read) tt
signed-not false u = refl

abbrev pub place-neg : {v : ℚ} → Place v → Place (-ℚ v)
place-neg p = record { s = not p.s; m = p.m; j = p.j; digits = p.digits; fine = p.fine; is = ap (λ (z : ℚ). -ℚ z) p.is ∙ sym (signed-not p.s (whole p.m *ℚ unit p.j)) }

-- ---- with a finer unit it is a whole number of units still
units : (n : ℕ) (u : ℚ) → Multiple u (whole n *ℚ u)
units n u = record { more = n; less = 0; is = by_eq ℚring u (÷_zero 1) (by_rep ℚring (u ∷ whole n ∷ whole 0 ∷ []) (search read depth 9) (search read depth 9) tt) }

signed_units : (s : Bool) (n : ℕ) (u : ℚ) → Multiple u (signed s (whole n *ℚ u))
signed_units false n u = units n u
signed_units true n u = multiple_neg (units n u)

pub on-grid : {v : ℚ} (p : Place v) (j : ℕ) → j ≤ p.j → Multiple (unit j) v
on-grid p j h = subst (λ (v : ℚ). Multiple (unit j) v) (sym (p.is ∙ ap (signed p.s) (finer p.m p.j j h))) (signed_units p.s (p.m * 2 ^ (p.j - j)) (unit j))

-- ---- the greatest double
abbrev pub most : ℚ
most = whole 9007199254740991 *ℚ unit 2045

coarse_is : {v : ℚ} (p : Place v) → p.j ≡ 2045 → v ≡ signed p.s (whole p.m *ℚ unit 2045)
coarse_is p e = p.is ∙ ap (λ (j : ℕ). signed p.s (whole p.m *ℚ unit j)) e

scaled_le : (m : ℕ) → m < 2 ^ 53 → whole m *ℚ unit 2045 ≤ℚ most
scaled_le m h = le_by (nn_mul _ _ (nn_of (÷_le m 9007199254740991 1 1 (omega arith) (omega arith) (omega arith))) (nn_le (÷_nn (2 ^ 2045) (2 ^ low binary64)))) (by_rep ℚring (whole m ∷ whole 9007199254740991 ∷ unit 2045 ∷ []) (search read depth 9) (search read depth 9) tt)

scaled_nn : (m : ℕ) → Nn (whole m *ℚ unit 2045)
scaled_nn m = nn_mul _ _ (nn_le (÷_nn m 1)) (nn_le (÷_nn (2 ^ 2045) (2 ^ low binary64)))

pub most_nn : Nn most
most_nn = scaled_nn 9007199254740991

pub place_le : {v : ℚ} (p : Place v) → p.j ≡ 2045 → v ≤ℚ most
place_le {v} p e = subst (λ (z : ℚ). z ≤ℚ most) (sym (coarse_is p e)) (go p.s p.m p.digits)
  where
    go : (s : Bool) (m : ℕ) → m < 2 ^ 53 → signed s (whole m *ℚ unit 2045) ≤ℚ most
    go false m d = scaled_le m d
    go true m d = le_by (nn_add _ _ (scaled_nn m) (scaled_nn 9007199254740991)) (by_rep ℚring ((whole m *ℚ unit 2045) ∷ most ∷ []) (search read depth 9) (search read depth 9) tt)

pub top_is : {v : ℚ} (p : Place v) → Top p → v ≡ most
top_is p t = coarse_is p t.2 ∙ ap (λ (s : Bool). signed s (whole p.m *ℚ unit 2045)) t.0 ∙ ap (λ (m : ℕ). whole m *ℚ unit 2045) (less p.m t.1)
  where
    less : (m : ℕ) → suc m ≡ 2 ^ 53 → m ≡ 9007199254740991
    less m h = omega arith
