-- `stated_words` equals its definition: 0 for sizes that are refused, and else the words of all slots.
use mathlib.Core.Path.{◌≡◌, sym, ap, ◌∙◌}
use mathlib.Core.Bool.{true}
use Prim.Native.Nat.{ℕ, ◌+◌, ◌*◌}
use native.Mathlib.Omega.{arith}
use borrow.Author.Tests.{leb-true}
use Rattle.model.specs.Call.{sizes_refusal, nodes_fit}
use Rattle.model.proofs.Numbers.{code_none, code_some}
use Rattle.model.proofs.Checks.{SmallSizes, small-sizes, stated-words, no-sizes, no-nodes}
use Rattle.geometry.proofs.call.Checks.{area-few}
use Rattle.geometry.proofs.call.stated_words.Goals as goal

-- The sizes, and the nodes, once they have passed.
sizes : (c : goal.Else-not-nodes_fit) → let g = c.args in sizes_refusal g.dim g.degree g.count ≡ 0
sizes c = sym c.sizes_refusal.ensures ∙ code_none _ (sym c.is_err.ensures.value ∙ c.if-is_err.false)

small : (c : goal.Else-not-nodes_fit) → let g = c.args in SmallSizes g.dim g.degree g.count
small c = small-sizes _ _ _ (sizes c)

few : (c : goal.Else-not-nodes_fit) → nodes_fit c.args.nodes ≡ true
few c = sym c.nodes_fit.ensures ∙ c.if-not-nodes_fit.false

pub returns-then-is_err : goal.returns-then-is_err
returns-then-is_err c =
    let some = code_some _ (sym c.is_err.ensures.value ∙ c.if-is_err.true) in
    sym (no-sizes _ _ _ _ (λ e. some (c.sizes_refusal.ensures ∙ e)))

pub returns-then-not-nodes_fit : goal.returns-then-not-nodes_fit
returns-then-not-nodes_fit c = sym (no-nodes _ _ _ _ (sym c.nodes_fit.ensures ∙ c.if-not-nodes_fit.true))

pub slot_words-requires : goal.slot_words-requires
slot_words-requires c = let z = small c in (z.dim, (z.degree, z.count))

pub overflow_mul-result : goal.overflow_mul-result
overflow_mul-result c =
    let z = small c.before in
    omega (arith, area-few _ _ _ _ _ c.slot_words.ensures (leb-true c.args.nodes 4096 (few c.before)) z.dim z.degree z.count)

pub returns : goal.returns
returns c =
    let g = c.args in
    ap (λ (w : ℕ). (g.nodes + 3) * w) c.slot_words.ensures
    ∙ sym (stated-words _ _ _ _ (sizes c.before) (few c.before))
