-- What an accepted call is: one that no check stops has accepted knots, weights above zero, and as many points as it says. Assumes nothing.
use mathlib.Core.Path.{◌≡◌, refl, sym, ap, ◌∙◌, subst}
use mathlib.Core.Logic.{◌⊎◌, inl, inr}
use mathlib.Core.List.{List, [], ◌∷◌}
use mathlib.Core.Bool.{Bool, true, false, cond, ◌&&◌, ◌||◌}
use Prim.Native.Nat.{ℕ, zero, suc, ◌+◌, ◌*◌, ◌≤◌, ◌<◌, max}
use native.Mathlib.Omega.{arith}
use lib.Dec.{T, leb, eqb, leb→le, eqb→eq}
use lib.ListN.{length, get_or}
use lib.Ieee.Bits.{is_true}
use lib.Ieee.{Float, nan, lt, le, eq}
use Rattle.exact.specs.Rational.{ℚ, ◌<ℚ◌, lt→not_le}
use Rattle.exact.specs.Spline.{Sorted}
use Rattle.exact.specs.Cut.{Good, eqℚ, tally, choose}
use Rattle.exact.proofs.Splines.Boor.{le_of_eq}
use Rattle.exact.proofs.Splines.On.{sorted-steps}
use Rattle.exact.proofs.Splines.Accept.{counted-good}
use Rattle.exact.proofs.Splines.Count.{eq-dec, eqℚ-no}
use Rattle.lists.specs.Lists.{all, count}
use Rattle.lists.proofs.Fold.{all_get_or}
use Rattle.math.specs.Scalars.{zero_f}
use Rattle.math.proofs.Bools.{and_l, and_r, and_i, or_l, or_r, or_split}
use Rattle.model.specs.NurbCurve.{knot, weights_positive}
use Rattle.model.specs.Call.{Curve, Call, AllDoubles, as_piece, lengths_fit, usable, numbers_usable, weights_fit, rising, multiplicity_ok, knots_valid, knots_fit, stated, area_fits, refusal}
use Rattle.model.specs.Enclosure.{Doubles}
use Rattle.model.proofs.Checks.{SmallSizes, small-sizes, CurvePasses, CallPasses, call_passes, curve-accepted, sizes-accepted}
use Rattle.model.proofs.Sound.Base.{values, Known}
use Rattle.model.proofs.Sound.Known.{lt_known, eq_known, known_eq, lt_value, le_value}
use Rattle.model.proofs.Sound.Boehm.{counted}

-- ---- the knots
rises : (l : List Float) (i : ℕ) → T (rising l) → suc i < length l → T (le (knot l i) (knot l (suc i)))
unfolding rising
rises [] i r h = absurd (omega arith)
rises (a ∷ []) i r h = absurd (omega arith)
rises (a ∷ b ∷ l) zero r h = and_l (le a b) (rising (b ∷ l)) r
rises (a ∷ b ∷ l) (suc i) r h = rises (b ∷ l) i (and_r (le a b) (rising (b ∷ l)) r) (omega arith)

-- a number that occurs is some knot's
occurs : (u : ℕ → ℚ) (v : ℚ) (k : ℕ) → (tally u v k ≡ 0) ⊎ ((i : ℕ) × ((i < k) × (u i ≡ v)))
unfolding tally
occurs u v zero = inl refl
occurs u v (suc k) = go (eq-dec (u k) v) (occurs u v k)
  where
    go : Dec (u k ≡ v) → (tally u v k ≡ 0) ⊎ ((i : ℕ) × ((i < k) × (u i ≡ v))) → (choose (eqℚ (u k) v) (suc (tally u v k)) (tally u v k) ≡ 0) ⊎ ((i : ℕ) × ((i < suc k) × (u i ≡ v)))
    go (yes h) r = inr (k, (omega arith, h))
    go (no h) (inl e) = inl (ap (λ (b : Bool). choose b (suc (tally u v k)) (tally u v k)) (eqℚ-no (u k) v h) ∙ e)
    go (no h) (inr z) = inr (z.0, (omega (arith, z.1.0), z.1.1))

module _ (p n : ℕ) (ks : List Float) (long : length ks ≡ suc (n + p)) (room : p < n) (known : (i : ℕ) → i < length ks → Known (knot ks i)) (ok : T (knots_valid p n ks)) where
  abbrev a : Float
  a = get_or ks p nan

  abbrev b : Float
  b = get_or ks n nan

  parts : T (rising ks) × (T (lt (get_or ks p nan) (get_or ks n nan)) × T (all (λ u. multiplicity_ok p (get_or ks p nan) (get_or ks n nan) ks u) ks))
  unfolding knots_valid
  parts = let h = and_l (rising ks && lt a b) (all (λ u. multiplicity_ok p a b ks u) ks) ok in (and_l (rising ks) (lt a b) h, (and_r (rising ks) (lt a b) h, and_r (rising ks && lt a b) (all (λ u. multiplicity_ok p a b ks u) ks) ok))

  pub sorted : Sorted (values ks) (n + p)
  sorted = sorted-steps (values ks) (n + p) (λ i h. le_value (knot ks i) (knot ks (suc i)) (known i (omega arith)) (known (suc i) (omega arith)) (rises ks i parts.0 (omega arith)))

  pub wide : values ks p <ℚ values ks n
  wide = lt_value a b (known p (omega arith)) (known n (omega arith)) parts.1.0

  -- a knot's value occurs as multiplicity_ok as it has to
  rare : (i : ℕ) → i < length ks → T (multiplicity_ok p (get_or ks p nan) (get_or ks n nan) ks (knot ks i))
  rare i h = subst T (sym (all_get_or (λ u. multiplicity_ok p a b ks u) ks i nan (is_true _ parts.1.1) h)) tt

  end_rare : (i : ℕ) → i < length ks → T (eq (knot ks i) (get_or ks p nan) || eq (knot ks i) (get_or ks n nan)) → tally (values ks) (values ks i) (suc (n + p)) ≤ suc p
  unfolding multiplicity_ok
  end_rare i h e =
      subst (λ (k : ℕ). k ≤ suc p) (counted ks (knot ks i) (known i h) known ∙ ap (tally (values ks) (values ks i)) long) (go (eq (knot ks i) a || eq (knot ks i) b) e (rare i h))
    where
      times : ℕ
      times = count (λ v. eq v (knot ks i)) ks

      go : (z : Bool) → T z → T (cond z (leb times (p + 1)) (cond (lt a (knot ks i) && lt (knot ks i) b) (leb times (max p 1)) true)) → times ≤ suc p
      go true _ t = omega (arith, leb→le times (p + 1) t)
      go false y t = absurd y

  inner_rare : 1 ≤ p → (i : ℕ) → i < length ks → values ks p <ℚ values ks i → values ks i <ℚ values ks n → tally (values ks) (values ks i) (suc (n + p)) ≤ p
  unfolding multiplicity_ok
  inner_rare one i h ai ib =
      subst (λ (k : ℕ). k ≤ p) (counted ks (knot ks i) (known i h) known ∙ ap (tally (values ks) (values ks i)) long)
      (go (eq (knot ks i) a || eq (knot ks i) b) none_of (lt a (knot ks i) && lt (knot ks i) b) between (rare i h))
    where
      times : ℕ
      times = count (λ v. eq v (knot ks i)) ks

      none_of : T (eq (knot ks i) (get_or ks p nan) || eq (knot ks i) (get_or ks n nan)) → ⊥
      none_of t = elim (or_split (eq (knot ks i) a) (eq (knot ks i) b) t) [
        | inl e ↦ lt→not_le ai (le_of_eq (eq_known (knot ks i) a (known i h) (known p (omega arith)) e))
        | inr e ↦ lt→not_le ib (le_of_eq (sym (eq_known (knot ks i) b (known i h) (known n (omega arith)) e)))
      ]

      between : T (lt (get_or ks p nan) (knot ks i) && lt (knot ks i) (get_or ks n nan))
      between = and_i (lt a (knot ks i)) (lt (knot ks i) b) (lt_known a (knot ks i) (known p (omega arith)) (known i h) ai) (lt_known (knot ks i) b (known i h) (known n (omega arith)) ib)

      go : (z : Bool) → (T z → ⊥) → (w : Bool) → T w → T (cond z (leb times (p + 1)) (cond w (leb times (max p 1)) true)) → times ≤ p
      go true no_one w y t = absurd (no_one tt)
      go false _ true y t = omega (arith, leb→le times (max p 1) t)
      go false _ false y t = absurd y

  pub good : 1 ≤ p → Good p n (values ks)
  good one = counted-good p n (values ks) (record {
    sorted = sorted;
    room = room;
    span = wide;
    inner = λ v av vb. elim (occurs (values ks) v (suc (n + p))) [
      | inl e ↦ omega (arith, e)
      | inr z ↦ subst (λ (x : ℚ). tally (values ks) x (suc (n + p)) ≤ p) z.1.1 (inner_rare one z.0 (subst (λ (k : ℕ). z.0 < k) (sym long) z.1.0) (subst (λ (x : ℚ). values ks p <ℚ x) (sym z.1.1) av) (subst (λ (x : ℚ). x <ℚ values ks n) (sym z.1.1) vb))
    ];
    start = end_rare p (omega arith) (or_l (eq a a) (eq a b) (known_eq a a (known p (omega arith)) (known p (omega arith)) refl));
    stop = end_rare n (omega arith) (or_r (eq b a) (eq b b) (known_eq b b (known n (omega arith)) (known n (omega arith)) refl));
  })

-- ---- what is left of a call that no check stops

-- Its sizes.
pub record Sizes (c : Call) : Type 0 where
  pub dim : c.curve.dim ≤ 3
  pub degree : c.curve.degree ≤ 7
  pub room : c.curve.degree < c.curve.count
  pub count : c.curve.count ≤ 32
  pub knots : length c.curve.knots ≡ c.curve.count + c.curve.degree + 1
  pub points : length c.curve.points ≡ 2 * suc c.curve.dim * c.curve.count
  pub box : length c.box ≡ 2 * c.curve.dim
  pub nodes : c.nodes ≤ 4096
  pub area : stated c ≤ c.work_len

pub sizes : (c : Call) → refusal c ≡ 0 → Sizes c
unfolding lengths_fit area_fits
sizes c e = record {
  dim = k.dim;
  degree = k.degree;
  room = k.room;
  count = k.count;
  knots = eqb→eq (length v.knots) (v.count + v.degree + 1) (and_l KL PL (and_l (KL && PL) BL h.question.curve.lengths));
  points = eqb→eq (length v.points) (2 * suc v.dim * v.count) (and_r KL PL (and_l (KL && PL) BL h.question.curve.lengths));
  box = eqb→eq (length c.box) (2 * v.dim) (and_r (KL && PL) BL h.question.curve.lengths);
  nodes = leb→le c.nodes 4096 h.question.nodes-few;
  area = leb→le (stated c) c.work_len h.area;
}
  where
    h : CallPasses c
    h = call_passes c e

    k : SmallSizes c.curve.dim c.curve.degree c.curve.count
    k = small-sizes _ _ _ (sizes-accepted _ _ _ _ (curve-accepted c e))

    v : Curve
    v = c.curve

    KL : Bool
    KL = eqb (length c.curve.knots) (c.curve.count + c.curve.degree + 1)

    PL : Bool
    PL = eqb (length c.curve.points) (2 * suc c.curve.dim * c.curve.count)

    BL : Bool
    BL = eqb (length c.box) (2 * c.curve.dim)

-- Its numbers.
pub record Checked (c : Call) : Type 0 where
  pub low_degree : c.curve.degree ≤ 7
  pub room : c.curve.degree < c.curve.count
  pub long : length c.curve.knots ≡ suc (c.curve.count + c.curve.degree)
  pub box_long : length c.box ≡ 2 * c.curve.dim
  pub known : (i : ℕ) → i < length c.curve.knots → Known (get_or c.curve.knots i nan)
  pub box_known : (i : ℕ) → i < length c.box → Known (get_or c.box i nan)
  pub weights : T (weights_positive c.curve.dim (as_piece c.curve).points)
  pub valid : T (knots_valid c.curve.degree c.curve.count c.curve.knots)

usables : (l : List Float) → AllDoubles l → T (all usable l) → (i : ℕ) → i < length l → Known (get_or l i nan)
usables l f u i h = record { double = f i h; moderate = subst T (sym (all_get_or usable l i nan (is_true _ u) h)) tt }

pub checked : (c : Call) → Doubles c → refusal c ≡ 0 → Checked c
unfolding numbers_usable weights_fit knots_fit
checked c d e = record {
  low_degree = z.degree;
  room = z.room;
  long = omega (arith, z.knots);
  box_long = z.box;
  known = usables c.curve.knots d.knots (and_l KN PN (and_l (KN && PN) BN (and_l (KN && PN && BN) RN (and_l (KN && PN && BN && RN) RP h.numbers))));
  box_known = usables c.box d.box (and_r (KN && PN) BN (and_l (KN && PN && BN) RN (and_l (KN && PN && BN && RN) RP h.numbers)));
  weights = h.weights;
  valid = h.knots;
}
  where
    z : Sizes c
    z = sizes c e

    h : CurvePasses c.curve.dim c.box c.resolution c.curve
    h = (call_passes c e).question.curve

    KN : Bool
    KN = all usable c.curve.knots

    PN : Bool
    PN = all usable c.curve.points

    BN : Bool
    BN = all usable c.box

    RN : Bool
    RN = usable c.resolution

    RP : Bool
    RP = le zero_f c.resolution
