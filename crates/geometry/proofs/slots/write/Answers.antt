-- `write` writes all of the source. Invariant: its first i words stand there.
use mathlib.Core.Path.{◌≡◌, refl, sym, ap, ◌∙◌}
use Prim.Native.Nat.{ℕ}
use native.Mathlib.Omega.{arith}
use lib.Ieee.{nan}
use lib.ListN.{length, get_or, length-set}
use Rattle.lists.specs.Lists.{tab, put}
use Rattle.lists.proofs.Tab.{tab-whole}
use Rattle.lists.proofs.Put.{put-nil}
use Rattle.lists.proofs.Loop.{put-tab}
use Rattle.geometry.proofs.slots.write.Goals as goal

pub loop-i-init : goal.loop-i-init
loop-i-init c = (refl, sym (put-nil c.args.work.now c.args.a))

pub loop-i-preserved : goal.loop-i-preserved
loop-i-preserved c =
    let l = c.loop-i in
    let g = c.args in
    (simp length-set l.invariant.0, rw l.invariant.1 (put-tab g.work.now g.a l.i _ (λ j. get_or g.source.now j nan) refl (omega arith)))

pub returns : goal.returns
returns c =
    let l = c.loop-i in
    let g = c.args in
    let e : l.i ≡ length g.source.now = omega arith in
    l.invariant.1 ∙ ap (put g.work.now g.a) (ap (λ (m : ℕ). tab m (λ j. get_or g.source.now j nan)) e ∙ tab-whole g.source.now nan)
