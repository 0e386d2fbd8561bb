-- `interpolate` writes the point between two points. Invariant: its first k intervals are written.
use mathlib.Core.Path.{◌≡◌, refl, sym, ◌∙◌}
use Rattle.math.specs.Revision.{arithmetic}
use Rattle.lists.proofs.Put.{put-nil}
use Rattle.math.proofs.Laws.{fraction_own, between_own}
use Rattle.model.specs.Layout.{flat}
use Rattle.geometry.proofs.vector.Between.{after, turn, done}
use native.Mathlib.Omega.{arith}
use Rattle.geometry.proofs.vector.interpolate.Goals as goal

pub loop-k-init : goal.loop-k-init
unfolding flat
loop-k-init ty c = (refl, sym (put-nil c.args.words.now c.args.c))

pub loop-k-preserved : goal.loop-k-preserved
loop-k-preserved ty c =
    let l = c.loop-k in
    let g = c.args in
    let ar = arithmetic ty.R.Revision.second in
    (c.set_scalar.auto.words ∙ l.invariant.0, turn ar g.words.now g.a g.b g.c g.d c.fraction-f.result.alpha c.requires.fact.0 c.requires.fact.1 c.requires.d_in_bounds.2 l.k _ _ _ _ _ (omega (arith, c.loop-k-test.true)) l.invariant.1 c.scalar_from-x.ensures c.scalar_from-y.ensures (c.between.ensures ∙ between_own ar _ _ _ _ c.fraction-f.ensures) c.set_scalar.ensures)

pub returns : goal.returns
returns ty c =
    let l = c.loop-k in
    let g = c.args in
    let ar = arithmetic ty.R.Revision.second in
    let e : l.k ≡ g.d = omega arith in
    let at = after ar g.words.now g.a g.b g.c g.d in
    l.invariant.1 ∙ (λ i. at (fraction_own ar _ _ c.fraction-f.ensures i) (e i)) ∙ done ar g.words.now g.a g.b g.c g.d g.alpha
