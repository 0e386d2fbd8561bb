-- Request E4: what the training cart answers to a call. Definitions only.
use Rattle.std.specs.Prelude.{ℕ, ◌≡◌, Bool, cond, ◌||◌, ◌⊎◌, T, ltb}
use Rattle.model.specs.Call.{Call, answer_to}
use Rattle.model.specs.Paper.{refused, paper}
use Rattle.model.specs.Enclosure.{HitsEnclosed, BoundsInDomain, BoundsPositiveZero, BoundsInOrder}
use Rattle.model.specs.Refusals.{Enough, with_words}
use Rattle.model.specs.Debug.{DebugSays}
use Rattle.model.specs.Subdivide.{no_counts}
use Rattle.model.specs.declared.contains.Found.{Found}
use Rattle.model.specs.declared.refusal.Refusal.TheVariants as reason
use Rattle.model.specs.declared.contains.Found.TheVariants.{Refused}

-- "It takes degree to 3, count to 8 and nodes to 48": whether one of the three is beyond its limit.
unfoldable pub is_beyond : ℕ → ℕ → ℕ → Bool
is_beyond degree count nodes = ltb 3 degree || (ltb 8 count || ltb 48 nodes)

-- "A call beyond any of the three limits."
abbrev pub Beyond : Call → Type 0
Beyond c = T (is_beyond c.curve.degree c.curve.count c.nodes)

-- "And runs on 8,192 numbers of its own."
abbrev pub own_words : ℕ
own_words = 8192

-- The cart's answer: 14 beyond the limits, whatever else is wrong with the call; else the frame's, which `curve_could_contain` of crates/geometry gives.
unfoldable pub cart_answer : Call → Found
cart_answer c = cond (is_beyond c.curve.degree c.curve.count c.nodes) (Refused reason.Cart no_counts) (answer_to c)

-- The call c, whose work area is the cart's own, has the answer r.
pub record CartAnswers (c : Call) (r : Found) : Type 0 where
  -- "Exactly a call beyond any of the three limits gets 14 there, before every other number; any other has the frame's result, refusals included."
  pub result : r ≡ cart_answer c
  -- "Gets 14 there, before every other number": with nothing counted.
  pub fourteen : Beyond c → r ≡ Refused reason.Cart no_counts
  -- "Exactly": nothing else brings 14.
  pub exactly : (paper r).result ≡ refused 14 → Beyond c
  -- "Any other has the frame's result": that of the frame with any work area that is long enough;
  pub frame : (Beyond c → ⊥) → (words : ℕ) → Enough c words → r ≡ answer_to (with_words c words)
  -- "refusals included": with whatever work area, that of the frame, unless this is 10.
  pub or_ten : (Beyond c → ⊥) → (words : ℕ) → (r ≡ answer_to (with_words c words)) ⊎ (answer_to (with_words c words) ≡ Refused reason.Work no_counts)
  -- The cart's numbers are always enough: 10 never comes.
  pub room : (paper r).result ≡ refused 10 → ⊥
  -- The word, the number and the values that the scope gives for it are those of the definition, too.
  pub paper : paper r ≡ paper (cart_answer c)
  -- Demand 3, as the frame keeps it: every exact hit lies between the bounds, and these lie in the domain, with no negative zero, finite and in order.
  pub encloses : HitsEnclosed c r
  pub within : BoundsInDomain c.curve r
  pub zeros : BoundsPositiveZero r
  pub order : BoundsInOrder r
  -- Request E14, within the limits: in revision 1 no test of the Rust's debug build fires.
  pub debug : (Beyond c → ⊥) → c.rev ≡ 1 → DebugSays c r
