-- `cart_could_contain` keeps its promises: 14 beyond the limits, and else what the contract of the search promises of a call with the cart's own numbers.
use mathlib.Core.Path.{refl, sym, ◌∙◌}
use Rattle.cart.proofs.Laws.{cart_refused, cart_answered}
use Rattle.cart.proofs.cart_could_contain.Goals as goal

pub returns-then-is_beyond : goal.returns-then-is_beyond
returns-then-is_beyond c = cart_refused _ (sym c.is_beyond.ensures ∙ c.if-is_beyond.true)

pub returns : goal.returns
returns c =
    cart_answered _ _ (sym c.is_beyond.ensures ∙ c.if-is_beyond.false) c.curve_could_contain.ensures refl
