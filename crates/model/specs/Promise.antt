-- What a call of the search promises: one record, which every door to it promises in the same words. Definitions only.
use Rattle.std.specs.Prelude.{◌≡◌, List, Float}
use Rattle.model.specs.Call.{Call, answer_to, area_after}
use Rattle.model.specs.Paper.{paper}
use Rattle.model.specs.Enclosure.{HitsEnclosed, BoundsInDomain, BoundsPositiveZero, BoundsInOrder}
use Rattle.model.specs.Debug.{DebugSays}
use Rattle.model.specs.declared.contains.Found.{Found}

-- The call c, which found `before` in its work area and left `after`, has the answer r.
pub record Answers (c : Call) (before after : List Float) (r : Found) : Type 0 where
  -- Demand 2: the answer is that of the definition in the revision that the call names, bounds and counts included.
  pub result : r ≡ answer_to c
  -- Demand 2: so are the word, the number and the values that the scope gives for it.
  pub paper : paper r ≡ paper (answer_to c)
  -- Demand 1: a call that 16 or 1 to 10 refuse leaves the work area as it was; any other leaves its stated words 0, and the
  -- rest as it was.
  pub memory : after ≡ area_after c before
  -- Demand 3: when the search of an accepted curve completes, every exact parameter of the domain, both ends included,
  -- at which the exact curve meets the box lies between the bounds.
  pub encloses : HitsEnclosed c r
  -- Demand 3: no bound lies outside the domain.
  pub within : BoundsInDomain c.curve r
  -- The scope: no bound is a negative zero.
  pub zeros : BoundsPositiveZero r
  -- Beside request E14: lo is at most hi, and both are finite.
  pub order : BoundsInOrder r
  -- Request E14: in revision 1, with the tests of the Rust's debug build the search comes to the same answer: no test fires.
  pub debug : c.rev ≡ 1 → DebugSays c r
