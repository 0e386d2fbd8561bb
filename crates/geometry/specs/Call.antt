-- What a call lends, what the checks of a question give, and what is left of a call that they let through. Definitions
-- only.
use Rattle.std.specs.Prelude.{ℕ, ◌≡◌, List, Float}
use Rattle.math.specs.Scalars.{Arithmetic}
use Rattle.geometry.specs.declared.call.Lent.{Lent}
use Rattle.model.specs.Call.{Curve, Call, curve_of, lent, AllDoubles, question_refusal, searched, area_after}
use Rattle.model.specs.declared.contains.Found.{Found}

-- The curve that is lent.
abbrev pub curve_in : Lent → Curve
curve_in q = curve_of q.dim q.degree q.count q.knots.now q.points.now

-- The call that lends this, and a work area of n words.
abbrev pub call_in : Lent → ℕ → Call
call_in q n = lent q.rev q.dim q.degree q.count q.knots.now q.points.now q.point_box.now q.resolution q.nodes n

-- The number r by which a question is refused, or 0. Where it is 0, each knot and each bound of the box is a double.
pub record QuestionRefused (rev : ℕ) (v : Curve) (box : List Float) (resolution : Float) (nodes r : ℕ) : Type 0 where
  pub number : r ≡ question_refusal rev v box resolution nodes
  pub knots : r ≡ 0 → AllDoubles v.knots
  pub bounds : r ≡ 0 → AllDoubles box

-- The search of a call that is not refused, which found `before` in its work area and left `after`, has the answer r.
pub record Searches (ar : Arithmetic) (c : Call) (before after : List Float) (r : Found) : Type 0 where
  pub result : r ≡ searched ar c
  pub memory : after ≡ area_after c before
