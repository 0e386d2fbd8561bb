-- A cut at a double that is no NaN separates the piece at one of its points: t then occurs degree + 1 times. Leans on the laws of insertions.
use mathlib.Core.Path.{◌≡◌, refl, sym, ap, ◌∙◌}
use mathlib.Core.Bool.{Bool, true, false, cond, ◌&&◌, beq}
use mathlib.Core.List.{List, [], ◌∷◌, ◌++◌}
use Prim.Native.Nat.{ℕ, zero, suc, ◌+◌, ◌-◌, ◌≤◌, ◌<◌}
use native.Mathlib.Omega.{arith}
use lib.ListN.{length, take, drop, length-drop, take-append-drop}
use lib.Seq.{length-take-le}
use lib.Ieee.{Float, nan, inf, fin, lt, eq}
use borrow.Author.Tests.{eq-eqb}
use Rattle.lists.specs.Lists.{count, position}
use Rattle.lists.proofs.Fold.{count_le}
use Rattle.math.specs.declared.scalars.Scalar.{Scalar}
use Rattle.math.specs.Divided.{Divided}
use Rattle.std.specs.Prelude.{Some, None}
use Rattle.math.specs.Scalars.{Arithmetic}
use Rattle.model.specs.NurbCurve.{Piece, in_domain}
use Rattle.model.specs.KnotInsertion.{Cut, knots_with, insertion_span, insert_once, insert_times, multiplicity, bezier_cut, boehm_cut, cut_by, full_cut, left_of, right_of}
use Rattle.geometry.specs.Slots.{Fits, Whole}
use Rattle.geometry.specs.declared.slots.Shape.{Shape}
use Rattle.geometry.proofs.knot_insertion.Wide.{wide-take, wide-drop}
use Rattle.geometry.proofs.knot_insertion.Cuts.{fits-times, fits_bezier, bezier_long, bezier_at, single, single-count, along}

-- ---- counts

module _ {A : Type 0} (p : A → Bool) where
  count-append : (xs ys : List A) → count p (xs ++ ys) ≡ count p xs + count p ys
  unfolding count
  count-append [] ys = nat (count p ys)
    where
      nat : (n : ℕ) → n ≡ 0 + n
      nat n = omega arith
  count-append (x ∷ xs) ys = ap (λ (n : ℕ). cond (p x) 1 0 + n) (count-append xs ys) ∙ nat (cond (p x) 1 0) (count p xs) (count p ys)
    where
      nat : (a b c : ℕ) → a + (b + c) ≡ a + b + c
      nat a b c = omega arith

  count-cons : (x : A) (xs : List A) → p x ≡ true → count p (x ∷ xs) ≡ 1 + count p xs
  unfolding count
  count-cons x xs e = rw e

  -- those that pass stand from the first of them on
  pub position-count : (l : List A) → position p l + count p l ≤ length l
  unfolding position count
  position-count [] = omega arith
  position-count (x ∷ l) = by (p x) (position-count l)
    where
      by : (b : Bool) → position p l + count p l ≤ length l → cond b 0 (suc (position p l)) + (cond b 1 0 + count p l) ≤ suc (length l)
      by true h = omega (arith, count_le p l)
      by false h = omega arith

-- ---- a double that is no NaN is itself

beq-self : (s : Bool) → beq s s ≡ true
beq-self true = refl
beq-self false = refl

-- a double that is above another
pub eq_self : (a t : Float) → lt a t ≡ true → eq t t ≡ true
unfolding lt eq
eq_self nan t h = absurd (never h)
  where
    never : false ≡ true → ⊥
    never q = let z : ◌≡◌ {A = ℕ} 0 1 = cc in omega arith
eq_self (inf s) nan h = absurd (never h)
  where
    never : false ≡ true → ⊥
    never q = let z : ◌≡◌ {A = ℕ} 0 1 = cc in omega arith
eq_self (inf s) (inf t) h = beq-self t
eq_self (inf s) (fin t n d) h = rw (eq-eqb _ _ refl, beq-self t)
eq_self (fin s m e) nan h = absurd (never h)
  where
    never : false ≡ true → ⊥
    never q = let z : ◌≡◌ {A = ℕ} 0 1 = cc in omega arith
eq_self (fin s m e) (inf t) h = beq-self t
eq_self (fin s m e) (fin t n d) h = rw (eq-eqb _ _ refl, beq-self t)

-- ---- how often t occurs

module _ (ar : Arithmetic) (t : Float) (self : eq t t ≡ true) where
  once-times : (s : Shape) (c : Piece) (k : ℕ) → multiplicity t (insert_once ar s.degree k t c).knots ≡ multiplicity t c.knots + 1
  unfolding insert_once knots_with
  once-times s c k =
      let q : Float → Bool = λ u. eq u t in
      let a : List Float = take (suc k) c.knots in
      let b : List Float = drop (suc k) c.knots in
      count-append q a (t ∷ b) ∙ ap (λ (n : ℕ). count q a + n) (count-cons q t b self) ∙ nat (count q a) (count q b)
      ∙ ap (λ (n : ℕ). n + 1) (sym (count-append q a b) ∙ ap (count q) (take-append-drop (suc k) c.knots))
    where
      nat : (x y : ℕ) → x + (1 + y) ≡ x + y + 1
      nat x y = omega arith

  many-times : (s : Shape) (e : ℕ) (c : Piece) → multiplicity t (insert_times ar s.degree t e c).knots ≡ multiplicity t c.knots + e
  unfolding insert_times
  many-times s zero c = nat (multiplicity t c.knots)
    where
      nat : (n : ℕ) → n ≡ n + 0
      nat n = omega arith
  many-times s (suc e) c =
      let k : ℕ = insertion_span s.degree (length c.points) c.knots t in
      many-times s e (insert_once ar s.degree k t c) ∙ ap (λ (n : ℕ). n + e) (once-times s c k) ∙ nat (multiplicity t c.knots) e
    where
      nat : (n e : ℕ) → n + 1 + e ≡ n + suc e
      nat n e = omega arith

-- ---- the cut

-- A cut of the piece c fits a slot, has no fewer points, and separates at one of them.
pub record Sound (s : Shape) (c : Piece) (k : Cut) : Type 0 where
  pub fits : Fits s k.piece
  pub more : length c.points ≤ length k.piece.points
  pub upto : k.at ≤ length k.piece.points

module _ (ar : Arithmetic) (s : Shape) (c : Piece) (t : Float) (f : Fits s c) (w : Whole s c) (self : eq t t ≡ true) where
  boehm_sound : Sound s c (boehm_cut ar s.degree t c)
  unfolding boehm_cut
  boehm_sound =
      let e : ℕ = suc s.degree - multiplicity t c.knots in
      let full : Piece = insert_times ar s.degree t e c in
      let g : Fits s (insert_times ar s.degree t e c) × (length (insert_times ar s.degree t e c).points ≡ length c.points + e) = fits-times ar s t e c f w.enough (omega (arith, w.bounded)) in
      record {
        fits = g.0;
        more = omega (arith, g.1);
        upto = omega (arith, g.0.knots, many-times ar t self s e c, position-count (λ u. eq u t) full.knots);
      }

  bezier_sound : (α : Scalar) → length c.points ≡ suc s.degree → Sound s c (bezier_cut ar s.degree t α c)
  bezier_sound α n =
      let small : s.degree < s.count = omega (arith, w.bounded) in
      record {
        fits = fits_bezier ar s c t α f.wide n small;
        more = omega (arith, bezier_long ar s c t α f.wide n small);
        upto = omega (arith, bezier_long ar s c t α f.wide n small, bezier_at ar s.degree t α c);
      }

  sound_by : (b : Bool) (r : Divided) → (b ≡ true → length c.points ≡ suc s.degree) → Sound s c (cut_by ar s.degree t c b r)
  unfolding cut_by
  sound_by true (Some α) h = bezier_sound α (h refl)
  sound_by true None h = boehm_sound
  sound_by false r h = boehm_sound

  pub full-sound : Sound s c (full_cut ar s.degree t c)
  unfolding full_cut
  full-sound = sound_by (single s.degree t c) (along s.degree t c ar) (single-count s.degree t c)

-- a parameter strictly inside the domain is no NaN
pub inside_self : (a b t : Float) → in_domain a b t ≡ true → eq t t ≡ true
unfolding in_domain
inside_self a b t h = eq_self a t (first (lt a t) (lt t b) h)
  where
    first : (x y : Bool) → x && y ≡ true → x ≡ true
    first true y e = refl
    first false y e = e

-- ---- what is left and right of it fits

module _ (s : Shape) (k : Cut) (f : Fits s k.piece) (u : k.at ≤ length k.piece.points) where
  left_count : length (left_of s.degree k).points ≡ k.at
  left_count = length-take-le k.at k.piece.points u

  pub fits_left_of : Fits s (left_of s.degree k)
  fits_left_of = record {
    knots = omega (arith, length-take-le (k.at + suc s.degree) k.piece.knots (omega (arith, f.knots)), left_count);
    points = omega (arith, left_count, f.points);
    wide = wide-take (suc s.dim) k.at k.piece.points f.wide;
  }

  pub fits_right_of : Fits s (right_of k)
  fits_right_of = record {
    knots = omega (arith, length-drop k.at k.piece.knots, length-drop k.at k.piece.points, f.knots);
    points = omega (arith, length-drop k.at k.piece.points, f.points);
    wide = wide-drop (suc s.dim) k.at k.piece.points f.wide;
  }
