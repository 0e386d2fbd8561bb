-- How large the bounds of an answer are: what a caller who reckons with them goes by. Definitions only.
use Rattle.std.specs.Prelude.{List, T, Float}
use Rattle.math.specs.Encloses.{is_moderate}
use Rattle.model.specs.Call.{Call}
use Rattle.model.specs.Paper.{paper}
use Rattle.model.specs.Enclosure.{OfBounds}
use Rattle.model.specs.Promise.{Answers}
use Rattle.model.specs.declared.contains.Found.{Found}

-- Neither bound is a NaN, infinite or above 2 ^ 100 in size.
abbrev pub BoundsModerate : Found → Type 0
BoundsModerate r = OfBounds (λ x. T (is_moderate x.lo) × T (is_moderate x.hi)) (paper r).bounds

-- It is so of every answer to a call: no knot is above 2 ^ 100 in size, and no bound lies outside the domain.
pub record Moderate : Type 0 where
  pub bounds : (c : Call) (before after : List Float) (r : Found) → Answers c before after r → BoundsModerate r
