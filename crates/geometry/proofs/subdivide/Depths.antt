-- The depths that are written behind a visit change nothing of what it left. Leans on the laws of a slot's depth.
use mathlib.Core.Path.{◌≡◌, ap, ◌∙◌, sym}
use mathlib.Core.List.{List, [], ◌∷◌}
use Prim.Native.Nat.{ℕ, suc, ◌+◌, ◌-◌}
use native.Mathlib.Numerals.{add-one}
use lib.Ieee.{Float}
use Rattle.lists.specs.Lists.{put}
use Rattle.model.specs.Subdivide.{Visit, restricted, halved}
use Rattle.geometry.specs.Slots.{words_of, depth_from, word, piece_at, Inside, Held, Apart}
use Rattle.geometry.specs.Ring.{Beside}
use Rattle.geometry.specs.State.{outcome_of, Visited, with_depths, Turned}
use Rattle.geometry.specs.declared.slots.Shape.{Shape}
use Rattle.geometry.specs.declared.subdivide.Outcome.{Outcome}
use Rattle.geometry.specs.declared.subdivide.Outcome.TheVariants.{Dropped, Reported, Restricted, Halved, BadWeight}
use Rattle.geometry.proofs.slots.Apart.{other}
use Rattle.geometry.proofs.slots.Depth.{deepened, deep_is, deep-held, deep-piece, deep_outside}
use Rattle.geometry.proofs.slots.Ring.{beside_trans, beside_first, beside_second, beside_inside, beside-held, beside-piece, beside-deep}

module _ (see : Visit) (s : Shape) (a b d : ℕ) (l m : List Float) (A : Inside s m a) (B : Inside s m b) (ab : Apart s a b) where
  -- one piece is handed on
  one : (n : ℕ) → Visited see s a b l m (Restricted n) → Turned see s a b d l (with_depths s m a b d (Restricted n)) (Restricted n)
  unfolding outcome_of
  one n v = record {
    visited = record {
      is = ap (restricted n) (deep-piece s m a d A v.holding) ∙ v.is;
      beside = beside_trans s a b l m (deepened s m a d A) v.beside (beside_first s a b m (deepened s m a d A) (deep_outside s m a d A));
      holding = deep-held s m a d A v.holding;
    };
    depths = deep_is s m a d A;
  }

  -- two are handed on: the memory with the first depth, and with both
  abbrev m₁ : List Float
  m₁ = deepened s m a (suc d) A

  by_first : Beside s a a m (deepened s m a (suc d) A)
  by_first = deep_outside s m a (suc d) A

  B₁ : Inside s (deepened s m a (suc d) A) b
  B₁ = beside_inside s a a m m₁ by_first b B

  abbrev m₂ : List Float
  m₂ = deepened s m₁ b (suc d) B₁

  by_second : Beside s b b (deepened s m a (suc d) A) (deepened s (deepened s m a (suc d) A) b (suc d) B₁)
  by_second = deep_outside s m₁ b (suc d) B₁

  ba : Apart s b a
  ba = other s a b ab

  module _ (hold : Held s m a × Held s m b) where
    first_held : Held s (deepened s m a (suc d) A) a
    first_held = deep-held s m a (suc d) A hold.0

    second_held : Held s (deepened s m a (suc d) A) b
    second_held = beside-held s a a m m₁ by_first b ab ab hold.1

    first_piece : piece_at s (deepened s (deepened s m a (suc d) A) b (suc d) B₁) a ≡ piece_at s m a
    first_piece = beside-piece s b b m₁ m₂ by_second a ba ba first_held ∙ deep-piece s m a (suc d) A hold.0

    second_piece : piece_at s (deepened s (deepened s m a (suc d) A) b (suc d) B₁) b ≡ piece_at s m b
    second_piece = deep-piece s m₁ b (suc d) B₁ second_held ∙ beside-piece s a a m m₁ by_first b ab ab hold.1

  two : Visited see s a b l m Halved → Turned see s a b d l (with_depths s m a b d Halved) Halved
  unfolding outcome_of
  two v = record {
    visited = record {
      is = (λ i. halved (first_piece v.holding i) (second_piece v.holding i)) ∙ v.is;
      beside = beside_trans s a b l m m₂ v.beside (beside_trans s a b m m₁ m₂ (beside_first s a b m m₁ by_first) (beside_second s a b m₁ m₂ by_second));
      holding = (beside-held s b b m₁ m₂ by_second a ba ba (first_held v.holding), deep-held s m₁ b (suc d) B₁ (second_held v.holding));
    };
    depths = (beside-deep s b b m₁ m₂ by_second a ba ba (suc d) (deep_is s m a (suc d) A), deep_is s m₁ b (suc d) B₁);
  }

  pub turned_by : (o : Outcome) → Visited see s a b l m o → Turned see s a b d l (with_depths s m a b d o) o
  turned_by Dropped v = record { visited = v; depths = tt }
  turned_by (Reported t) v = record { visited = v; depths = tt }
  turned_by (Restricted n) v = one n v
  turned_by Halved v = two v
  turned_by BadWeight v = record { visited = v; depths = tt }

-- ---- the depths are written by the code, in slots of w words

module _ (s : Shape) (w a b d : ℕ) (W : w ≡ words_of s) (o : Outcome) (l : List Float) where
  pub set_two : (m k : List Float) → o ≡ Halved → m ≡ put l (a + (w - 1)) (word (d + 1) ∷ []) → k ≡ put m (b + (w - 1)) (word (d + 1) ∷ []) → k ≡ with_depths s l a b d o
  set_two m k O M K =
      K
      ∙ (λ i. put (M i) (b + (W i - 1)) (word (add-one d i) ∷ []))
      ∙ (λ i. put (put l (a + (W i - 1)) (word (add-one d i) ∷ [])) (depth_from s b) (word (suc d) ∷ []))
      ∙ sym (ap (with_depths s l a b d) O)
