-- The bounds of an answer are not above 2 ^ 100 in size, since the domain's ends are knots (`moderate`). Leans on the checks that an accepted call has passed, and on what `Answers` promises.
use Prim.Native.Nat.{ℕ, zero, suc, ◌+◌, ◌<◌}
use native.Mathlib.Omega.{arith}
use mathlib.Core.Path.{◌≡◌, refl, ap}
use mathlib.Core.Bool.{Bool, true, false, ◌&&◌}
use mathlib.Core.List.{List}
use lib.ListN.{length}
use lib.IntN.{pos}
use lib.Dec.{T}
use lib.Ieee.{Float, nan, fin, le}
use lib.Ieee.Bits.{is_true}
use Rattle.lists.specs.Lists.{all}
use Rattle.lists.proofs.Fold.{all_get_or}
use Rattle.lists.proofs.Tab.{length-tab}
use Rattle.math.specs.Scalars.{zero_f}
use Rattle.math.specs.Encloses.{is_moderate}
use Rattle.math.proofs.Bools.{yes, no, and_i, and_l, and_r}
use Rattle.math.proofs.Doubles.Order.{le_trans}
use Rattle.model.specs.NurbCurve.{knot, start, end}
use Rattle.model.specs.Layout.{points_of}
use Rattle.model.specs.Call.{Call, as_piece, usable, numbers_usable, refusal, searched_by, searched, arithmetic_of, answer_to}
use Rattle.model.specs.Enclosure.{NotOutside}
use Rattle.model.specs.Promise.{Answers}
use Rattle.model.specs.Moderate.{BoundsModerate, Moderate}
use Rattle.model.specs.declared.subdivide.Counts.{Counts}
use Rattle.model.specs.declared.contains.Found.{Found}
use Rattle.model.specs.declared.contains.Found.TheVariants.{Nothing, Enclosed, Spent, Refused}
use Rattle.model.proofs.Checks.{CurvePasses, call_passes}
use Rattle.model.proofs.Sound.Accepted.{sizes}

-- ---- of a call that is not refused
module _ (c : Call) (accepted : refusal c ≡ 0) where
  passes : CurvePasses c.curve.dim c.box c.resolution c.curve
  passes = (call_passes c accepted).question.curve

  knots-usable : all usable c.curve.knots ≡ true
  unfolding numbers_usable
  knots-usable =
      is_true _ (first (all usable c.curve.knots) (all usable c.curve.points) (all usable c.box) (usable c.resolution) (le zero_f c.resolution) passes.numbers)
    where
      first : (a b d e f : Bool) → T (a && b && d && e && f) → T a
      first true b d e f h = tt
      first false b d e f h = h

  long : length c.curve.knots ≡ c.curve.count + c.curve.degree + 1
  long = (sizes c accepted).knots

  knot_moderate : (i : ℕ) → i < length c.curve.knots → T (is_moderate (knot c.curve.knots i))
  knot_moderate i h = yes _ (all_get_or usable c.curve.knots i nan knots-usable h)

  start_moderate : T (is_moderate (start c.curve.degree (as_piece c.curve)))
  start_moderate = knot_moderate c.curve.degree (omega (arith, long))

  end_moderate : T (is_moderate (end (as_piece c.curve)))
  end_moderate = knot_moderate (length (as_piece c.curve).points) (omega (arith, long, many))
    where
      many : length (as_piece c.curve).points ≡ c.curve.count
      many = unfold points_of in length-tab c.curve.count _

  -- what does not lie outside the domain
  inside : (x : Float) → NotOutside (start c.curve.degree (as_piece c.curve)) (end (as_piece c.curve)) x → T (is_moderate x)
  inside x h =
      let a = start c.curve.degree (as_piece c.curve) in
      let b = end (as_piece c.curve) in
      let least = fin true 1 (pos 100) in
      let most = fin false 1 (pos 100) in
      and_i (le least x) (le x most)
      (le_trans least a x (and_l (le least a) (le a most) start_moderate) (and_l (le a x) (le x b) h))
      (le_trans x b most (and_r (le a x) (le x b) h) (and_r (le least b) (le b most) end_moderate))

-- ---- of any call

-- An answer with bounds.
abbrev is_enclosed : Found → Bool
is_enclosed (Nothing v) = false
is_enclosed (Enclosed lo hi v) = true
is_enclosed (Spent n v) = false
is_enclosed (Refused e v) = false

-- a call that has bounds for an answer is not refused
with-bounds : (c : Call) (lo hi : Float) (v : Counts) → Enclosed lo hi v ≡ answer_to c → refusal c ≡ 0
unfolding searched searched_by
with-bounds c lo hi v h = by (refusal c) refl h
  where
    by : (n : ℕ) → refusal c ≡ n → Enclosed lo hi v ≡ searched_by (arithmetic_of c) c n → refusal c ≡ 0
    by zero e h = e
    by (suc n) e h = absurd (no true (ap is_enclosed h) tt)

-- THE BOUNDS OF EVERY ANSWER
pub moderate : Moderate
moderate = record { bounds = by }
  where
    by : (c : Call) (before after : List Float) (r : Found) → Answers c before after r → BoundsModerate r
    by c before after (Nothing v) A = tt
    by c before after (Spent n v) A = tt
    by c before after (Refused e v) A = tt
    by c before after (Enclosed lo hi v) A =
        let e = with-bounds c lo hi v A.result in
        (inside c e lo A.within.0, inside c e hi A.within.1)
