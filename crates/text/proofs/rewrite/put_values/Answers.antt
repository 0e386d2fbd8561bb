-- `put_values` writes the doubles. Invariant: the first i stand there, each with what follows it.
use mathlib.Core.Path.{◌≡◌, refl, sym, ◌∙◌, subst}
use Prim.Native.Nat.{◌+◌, ◌*◌}
use native.Mathlib.Omega.{arith}
use lib.ListN.{length}
use lib.Dec.{T}
use lib.Ieee.{Float, nan}
use Rattle.math.proofs.Bools.{yes}
use Rattle.model.proofs.Signs.{positive_number}
use Rattle.lists.proofs.Fold.{all_get_or}
use Rattle.text.specs.Numerals.{hexadecimal}
use Rattle.text.specs.Printable.{Written, is_number}
use Rattle.text.proofs.rewrite.Lines.{values_none, values-more, values_all}
use Rattle.text.proofs.rewrite.put_values.Goals as goal

pub loop-i-init : goal.loop-i-init
loop-i-init c = let a = c.args in values_none a.xs.now a.out.now a.at

pub put_double-k-requires : goal.put_double-k-requires
put_double-k-requires c =
    let l = c.loop-i in
    let a = c.args in (
      omega arith,
      subst (λ (x : Float). T (is_number x)) (sym c.positive_zero-y.ensures)
          (positive_number _ (yes _ (all_get_or is_number a.xs.now l.i nan c.requires.all_numbers (omega arith)))),
    )

pub loop-i-preserved : goal.loop-i-preserved
loop-i-preserved c =
    let l = c.loop-i in
    let a = c.args in
    let w = c.put_double-k in
    let long : length w.new.out ≡ length a.out.now = w.auto.out ∙ l.auto.out in
    values-more a.xs.now a.out.now a.at l.i l.out w.new.out w.result
    c.behind.result (omega arith) c.requires.in_bounds l.invariant l.auto.out long w.ensures.1 c.behind.ensures
    (subst (λ (x : Float). Written l.out (a.at + 17 * l.i) (hexadecimal x) w.new.out w.result)
    c.positive_zero-y.ensures w.ensures.0)

pub returns : goal.returns
returns c =
    let l = c.loop-i in
    let a = c.args in
    (values_all a.xs.now a.out.now a.at l.i l.out (omega arith) (omega arith) l.invariant, refl)
