-- What a result says of a path and a box. Definitions only.
use Rattle.std.specs.Prelude.{◌≡◌, Bool, true, false, List, Float}
use Rattle.exact.specs.Rational.{ℚ}
use Rattle.model.specs.Call.{Call, answer_to}
use Rattle.model.specs.Enclosure.{HitAt}
use Rattle.model.specs.Promise.{Answers}
use Rattle.model.specs.declared.contains.Found.{Found}
use Rattle.model.specs.declared.contains.Found.TheVariants.{Nothing, Enclosed, Spent, Refused}

-- Only a completed search that reported nothing shows that the curve meets the box at no parameter.
unfoldable pub is_clear : Found → Bool
is_clear (Nothing v) = true
is_clear (Enclosed lo hi v) = false
is_clear (Spent n v) = false
is_clear (Refused e v) = false

-- The call c, which found `before` in its work area and left `after`, was found to be clear (r), or not.
pub record Clears (c : Call) (before after : List Float) (r : Bool) : Type 0 where
  -- It is clear where the search says so.
  pub result : r ≡ is_clear (answer_to c)
  -- The search keeps its promises; of these, the work area's is about what is seen here.
  pub answers : Answers c before after (answer_to c)
  -- A curve that is clear meets the box at no parameter t of its domain, both ends included.
  pub clear : r ≡ true → (t : ℚ) → HitAt c t → ⊥
