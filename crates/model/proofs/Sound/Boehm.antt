-- The cut by insertion: what is left and what is right of it are accepted pieces that together hold what the piece held. Assumes nothing.
use mathlib.Core.Path.{◌≡◌, refl, sym, ap, ap₂, ◌∙◌, subst}
use mathlib.Core.List.{List}
use mathlib.Core.Bool.{Bool, true, false, cond, true≢false}
use Prim.Native.Nat.{ℕ, zero, suc, ◌+◌, ◌-◌, ◌≤◌, ◌<◌}
use native.Mathlib.Nat.{lt_of_not-le, le_antisymm, zero-add}
use native.Mathlib.Decide.{dec_le}
use native.Mathlib.Omega.{arith}
use lib.Dec.{T}
use lib.ListN.{length, take, drop}
use lib.Seq.{take-suc, take-length}
use lib.Ieee.Bits.{is_true}
use lib.Ieee.{Float, nan, eq}
use Rattle.exact.specs.Rational.{ℚ, ◌≤ℚ◌, ◌<ℚ◌, lt→not_le}
use Rattle.exact.specs.Spline.{On}
use Rattle.exact.specs.Cut.{Group, Grouped, choose, eqℚ, tally}
use Rattle.exact.proofs.Order.{le_refl}
use Rattle.exact.proofs.Splines.Group.{group-find, group-thin}
use Rattle.exact.proofs.Splines.Count.{eqℚ-yes, eqℚ-no, tally-group}
use Rattle.lists.specs.Lists.{count, position}
use Rattle.lists.proofs.Fold.{position-passes, position-before, count-snoc}
use Rattle.math.specs.Scalars.{Arithmetic}
use Rattle.math.specs.Values.{value}
use Rattle.math.specs.Encloses.{Encloses}
use Rattle.model.specs.NurbCurve.{Piece, knot}
use Rattle.model.specs.KnotInsertion.{insert_times, multiplicity, boehm_cut, left_of, right_of}
use Rattle.model.proofs.Sound.Base.{values, Known, Knots, Inside}
use Rattle.model.proofs.Sound.Known.{eq_known, known_eq}
use Rattle.model.proofs.Sound.Grow.{Grown, grown_none, grown-times}
use Rattle.model.proofs.Sound.Parts.{Parts, Keeps, m<n', severed, severed_keeps}

-- ---- counting and finding among known knots
module _ (ks : List Float) (x : Float) (kx : Known x) (known : (i : ℕ) → i < length ks → Known (knot ks i)) where
  same_test : (i : ℕ) → i < length ks → eq (knot ks i) x ≡ eqℚ (values ks i) (value x)
  same_test i h = go (eq (knot ks i) x) refl
    where
      go : (b : Bool) → eq (knot ks i) x ≡ b → eq (knot ks i) x ≡ eqℚ (values ks i) (value x)
      go true e = e ∙ sym (eqℚ-yes (values ks i) (value x) (eq_known (knot ks i) x (known i h) kx (subst T (sym e) tt)))
      go false e = e ∙ sym (eqℚ-no (values ks i) (value x) (λ q. subst T e (known_eq (knot ks i) x (known i h) kx q)))

  count-tally : (i : ℕ) → i ≤ length ks → count (λ u. eq u x) (take i ks) ≡ tally (values ks) (value x) i
  unfolding tally count
  count-tally zero h = refl
  count-tally (suc i) h =
      ap (count (λ u. eq u x)) (take-suc ks i nan h) ∙ count-snoc (λ u. eq u x) (take i ks) (knot ks i)
      ∙ ap₂ (λ (b : Bool) (k : ℕ). cond b 1 0 + k) (same_test i h) (count-tally i (omega arith)) ∙ bump (eqℚ (values ks i) (value x)) (tally (values ks) (value x) i)
    where
      bump : (b : Bool) (k : ℕ) → cond b 1 0 + k ≡ choose b (suc k) k
      bump true k = omega arith
      bump false k = omega arith

  pub counted : count (λ u. eq u x) ks ≡ tally (values ks) (value x) (length ks)
  counted = ap (count (λ u. eq u x)) (sym (take-length ks)) ∙ count-tally (length ks) (omega arith)

  -- the first knot that is x
  pub placed : (N m s : ℕ) → length ks ≡ suc N → Group N (values ks) (value x) m s → 1 ≤ s → m ≤ N → position (λ u. eq u x) ks ≡ m
  placed N m s long g s1 mN = le_antisymm (upper (dec_le (position (λ u. eq u x) ks) m)) (lower (dec_le m (position (λ u. eq u x) ks)))
    where
      j : ℕ
      j = position (λ u. eq u x) ks

      hit : eq (knot ks m) x ≡ true
      hit = is_true (eq (knot ks m) x) (known_eq (knot ks m) x (known m (omega arith)) kx (g.equal m (omega arith) (omega arith)))

      upper : Dec (j ≤ m) → j ≤ m
      upper (yes h) = h
      upper (no h) = absurd (true≢false (sym hit ∙ position-before (λ u. eq u x) ks m nan (lt_of_not-le h)))

      lower : Dec (m ≤ j) → m ≤ j
      lower (yes h) = h
      lower (no h) = absurd (clash (lt_of_not-le h))
        where
          clash : j < m → ⊥
          clash l =
              lt→not_le (g.below j l)
              (subst (λ (z : ℚ). z ≤ℚ values ks j) (eq_known (knot ks j) x (known j (omega arith)) kx (subst T (sym (position-passes (λ u. eq u x) ks nan (omega arith))) tt)) (le_refl (values ks j)))

-- THE CUT BY INSERTION
module _ (ar : Arithmetic) (E : Encloses ar) (D p : ℕ) (x : Float) (c : Piece) (C : ℕ → ℕ → ℚ) (K : Knots p (length c.points) c.knots) (I : Inside D c.points C) (kx : Known x)
    (px : values c.knots p <ℚ value x) (xn : value x <ℚ values c.knots (length c.points)) where
  abbrev n : ℕ
  n = length c.points

  abbrev u : ℕ → ℚ
  u = values c.knots

  record Found (e : ℕ) : Type 0 where
    m : ℕ
    s : ℕ
    grown : Grown D p (length c.points) (values c.knots) C x m s e (insert_times ar p x e c)
    whole : s + e ≡ suc p
    at : position (λ u. eq u x) (insert_times ar p x e c).knots ≡ m

  found : Found (suc p - multiplicity x c.knots)
  found = go (group-find (length c.points + p) (values c.knots) (value x) K.good.sorted)
    where
      go : Grouped (length c.points + p) (values c.knots) (value x) → Found (suc p - multiplicity x c.knots)
      go g =
          subst Found (sym missing)
          (record { m = g.m; s = g.s; grown = r; whole = se; at = placed _ x kx r.known (length (insert_times ar p x e c).points + p) g.m (g.s + e) r.long r.raised.group (omega (arith, se)) (omega (arith, m<n' D p (length c.points) (values c.knots) C x g.m g.s e (insert_times ar p x e c) K.good r se px xn)) })
        where
          thin : g.s ≤ p
          thin = group-thin p (length c.points) (values c.knots) (value x) g.m g.s K.good g.group px xn

          e : ℕ
          e = suc p - g.s

          se : g.s + (suc p - g.s) ≡ suc p
          se = omega (arith, thin)

          missing : suc p - multiplicity x c.knots ≡ suc p - g.s
          missing =
              ap (λ (z : ℕ). suc p - z)
              (counted c.knots x kx K.known ∙ ap (tally (values c.knots) (value x)) K.long ∙ tally-group (length c.points + p) (values c.knots) (value x) g.m g.s g.group g.fits)

          r : Grown D p (length c.points) (values c.knots) C x g.m g.s (suc p - g.s) (insert_times ar p x (suc p - g.s) c)
          r =
              subst (λ (z : ℕ). Grown D p (length c.points) (values c.knots) C x g.m g.s z (insert_times ar p x (suc p - g.s) c)) (zero-add (suc p - g.s))
              (grown-times ar E D p (length c.points) (values c.knots) C x g.m g.s K.good kx px xn (suc p - g.s) zero c (grown_none D p c C x g.m g.s K I g.group))

  abbrev full : Piece
  full = insert_times ar p x (suc p - multiplicity x c.knots) c

  pub boehm_parts : Parts p (length c.points) (values c.knots p) (value x) (values c.knots (length c.points)) (left_of p (boehm_cut ar p x c)) (right_of (boehm_cut ar p x c))
  unfolding boehm_cut
  boehm_parts =
      subst
      (λ (z : ℕ). Parts p n (u p) (value x) (u n) (record { knots = take (z + suc p) full.knots; points = take z full.points }) (record { knots = drop z full.knots; points = drop z full.points }))
      (sym found.at)
      (severed D p n u C x found.m found.s (suc p - multiplicity x c.knots) full K.good found.grown found.whole px xn)

  pub boehm_keeps : (t : ℚ) (v : ℕ → ℚ) → On p (length c.points) (values c.knots) C t v → Keeps D p t v (value x) (left_of p (boehm_cut ar p x c)) (right_of (boehm_cut ar p x c))
  unfolding boehm_cut
  boehm_keeps t v o =
      subst
      (λ (z : ℕ). Keeps D p t v (value x) (record { knots = take (z + suc p) full.knots; points = take z full.points }) (record { knots = drop z full.knots; points = drop z full.points }))
      (sym found.at)
      (severed_keeps D p n u C x found.m found.s (suc p - multiplicity x c.knots) full K.good found.grown found.whole px xn t v o)
