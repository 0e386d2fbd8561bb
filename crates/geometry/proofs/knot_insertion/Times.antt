-- Insertions one after the other into a slot. Leans on the laws of one insertion and of slots.
use mathlib.Core.Path.{◌≡◌, refl, sym, ap, ◌∙◌, subst}
use mathlib.Core.Bool.{Bool, true, false, cond}
use mathlib.Core.List.{List}
use Prim.Native.Nat.{ℕ, zero, suc, ◌+◌, ◌-◌, ◌≤◌, ◌<◌}
use native.Mathlib.Omega.{arith}
use lib.ListN.{length}
use lib.Ieee.{Float}
use Rattle.math.specs.Scalars.{Arithmetic}
use Rattle.model.specs.NurbCurve.{Piece}
use Rattle.model.specs.KnotInsertion.{holds_at, highest, insertion_span, insert_once, insert_times}
use Rattle.geometry.specs.Slots.{count_at, piece_at, placed, Fits, Inside, Held}
use Rattle.geometry.specs.declared.slots.Shape.{Shape}
use Rattle.geometry.proofs.slots.Piece.{length-placed, count-placed, piece-placed, held-placed, fits-piece, count-points, placed-piece, placed-again}
use Rattle.geometry.proofs.knot_insertion.Once.{once-count, fits-once}

-- ---- where the span lies

highest-from : (ks : List Float) (t : Float) (p n : ℕ) → p ≤ highest ks t p n
unfolding highest
highest-from ks t p zero = omega arith
highest-from ks t p (suc n) = by (holds_at ks t (p + n)) (highest-from ks t p n)
  where
    by : (b : Bool) → p ≤ highest ks t p n → p ≤ cond b (p + n) (highest ks t p n)
    by true h = omega arith
    by false h = h

highest-upto : (ks : List Float) (t : Float) (p n : ℕ) → highest ks t p n ≤ p + (n - 1)
unfolding highest
highest-upto ks t p zero = omega arith
highest-upto ks t p (suc n) = by (holds_at ks t (p + n)) (highest-upto ks t p n)
  where
    by : (b : Bool) → highest ks t p n ≤ p + (n - 1) → cond b (p + n) (highest ks t p n) ≤ p + (suc n - 1)
    by true h = omega arith
    by false h = omega arith

pub span-bounds : (p n : ℕ) (ks : List Float) (t : Float) → p < n → (p ≤ insertion_span p n ks t) × (insertion_span p n ks t < n)
unfolding insertion_span
span-bounds p n ks t h = (highest-from ks t p (n - p), omega (arith, highest-upto ks t p (n - p)))

-- the span that is found lies among those of the slot
pub span_in_bounds : (s : Shape) (l : List Float) (base k : ℕ) (t : Float) → Held s l base → s.degree < count_at l base → k ≡ insertion_span s.degree (length (piece_at s l base).points) (piece_at s l base).knots t
    → (s.degree ≤ k) × (k < count_at l base)
span_in_bounds s l base k t h d e =
    let n : length (piece_at s l base).points ≡ count_at l base = count-points s l base h in
    let b : (s.degree ≤ insertion_span s.degree (length (piece_at s l base).points) (piece_at s l base).knots t) × (insertion_span s.degree (length (piece_at s l base).points) (piece_at s l base).knots t < length (piece_at s l base).points)
    = span-bounds s.degree (length (piece_at s l base).points) (piece_at s l base).knots t (omega arith) in
    (omega (arith, b.0), omega (arith, b.1))

times-suc : (ar : Arithmetic) (s : Shape) (t : Float) (n : ℕ) (c : Piece)
    → insert_times ar s.degree t (suc n) c ≡ insert_times ar s.degree t n (insert_once ar s.degree (insertion_span s.degree (length c.points) c.knots t) t c)
unfolding insert_times
times-suc ar s t n c = refl

-- ---- after i insertions of `times`, the memory l has become w

pub record After (ar : Arithmetic) (s : Shape) (l : List Float) (base : ℕ) (t : Float) (times i : ℕ) (w : List Float) : Type 0 where
  pub within : i ≤ times
  pub long : length w ≡ length l
  pub held : Held s w base
  pub count : count_at w base ≡ count_at l base + i
  pub memory : w ≡ placed s l base (piece_at s w base)
  pub rest : insert_times ar s.degree t (times - i) (piece_at s w base) ≡ insert_times ar s.degree t times (piece_at s l base)

module _ (ar : Arithmetic) (s : Shape) (l : List Float) (base : ℕ) (t : Float) (times : ℕ) where
  pub after_none : Held s l base → After ar s l base t times 0 l
  after_none h = record { within = omega arith; long = refl; held = h; count = omega arith; memory = sym (placed-piece s l base h); rest = ap (λ (n : ℕ). insert_times ar s.degree t n (piece_at s l base)) (sub-zero times) }
    where
      sub-zero : (n : ℕ) → n - 0 ≡ n
      sub-zero n = omega arith

  pub after_turn : (i k : ℕ) (w y : List Float) → Held s l base → After ar s l base t times i w → i < times → s.degree < count_at l base → count_at l base + times ≤ s.count + s.degree + 1
      → k ≡ insertion_span s.degree (length (piece_at s w base).points) (piece_at s w base).knots t → y ≡ placed s w base (insert_once ar s.degree k t (piece_at s w base)) → After ar s l base t times (i + 1) y
  after_turn i k w y h a q d r e f =
      let c : Piece = piece_at s w base in
      let n : length c.points ≡ count_at w base = count-points s w base a.held in
      let b : (s.degree ≤ k) × (k < count_at w base) = span_in_bounds s w base k t a.held (omega (arith, a.count)) e in
      let g : Fits s c = fits-piece s w base a.held in
      let kn : k < length c.points = omega (arith, b.1) in
      let next : Piece = insert_once ar s.degree k t c in
      let more : length next.points ≡ suc (length c.points) = once-count ar s c k t g b.0 kn in
      let fit : Fits s next = fits-once ar s c k t g b.0 kn (omega (arith, a.count)) in
      let ins : Inside s w base = a.held.inside in
      let got : piece_at s y base ≡ next = ap (λ (v : List Float). piece_at s v base) f ∙ piece-placed s w base ins next fit in
      let all : y ≡ placed s l base next = f ∙ ap (λ (v : List Float). placed s v base next) a.memory ∙ placed-again s l base c next h.inside g fit (omega arith) in
      record {
        within = omega arith;
        long = ap length f ∙ length-placed s w base ins next fit ∙ a.long;
        held = subst (λ (v : List Float). Held s v base) (sym f) (held-placed s w base ins next fit);
        count = ap (λ (v : List Float). count_at v base) f ∙ count-placed s w base ins next fit ∙ more ∙ nat (length c.points) (n ∙ a.count);
        memory = all ∙ ap (placed s l base) (sym got);
        rest = ap (insert_times ar s.degree t (times - (i + 1))) got ∙ once_more k c e ∙ a.rest;
      }
    where
      nat : (m : ℕ) → m ≡ count_at l base + i → suc m ≡ count_at l base + (i + 1)
      nat m g = omega arith

      once_more : (k : ℕ) (c : Piece) → k ≡ insertion_span s.degree (length c.points) c.knots t
          → insert_times ar s.degree t (times - (i + 1)) (insert_once ar s.degree k t c) ≡ insert_times ar s.degree t (times - i) c
      once_more k c g =
          let z : times - i ≡ suc (times - (i + 1)) = omega arith in
          ap (λ (m : ℕ). insert_times ar s.degree t (times - (i + 1)) (insert_once ar s.degree m t c)) g
          ∙ sym (ap (λ (m : ℕ). insert_times ar s.degree t m c) z ∙ times-suc ar s t (times - (i + 1)) c)

  pub after_all : (i : ℕ) (w : List Float) → After ar s l base t times i w → i ≡ times → w ≡ placed s l base (insert_times ar s.degree t times (piece_at s l base))
  unfolding insert_times
  after_all i w a e =
      let z : times - i ≡ 0 = omega arith in
      a.memory ∙ ap (placed s l base) (sym (ap (λ (n : ℕ). insert_times ar s.degree t n (piece_at s w base)) z) ∙ a.rest)
