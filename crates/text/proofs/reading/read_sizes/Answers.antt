-- `read_sizes` equals its definition: the three lines of the sizes are bad, or refused, or the other lines say it.
use mathlib.Core.Path.{refl, sym}
use Rattle.model.proofs.Numbers.{some_number}
use Rattle.model.proofs.Checks.{small-sizes}
use Rattle.text.proofs.reading.Cases.{handed_on, head-bad, head-refused, head-asked}
use Rattle.text.proofs.reading.read_sizes.Goals as goal

pub returns-in_default : goal.returns-in_default
returns-in_default c =
    let a = c.args in
    head-bad a.rev a.n a.rest.now _ c.sizes.ensures c.in_default.is

pub returns-in_err-sizes_refusal : goal.returns-in_err-sizes_refusal
returns-in_err-sizes_refusal c =
    let a = c.args in
    let some = some_number _ in
    rw (handed_on _ _ c.from_residual.ensures.1)
    (head-refused a.rev a.n a.rest.now _ c.sizes.ensures _ _ c.in-Some.is _ c.in_err-sizes_refusal.ensures some)

pub read_numbers-requires : goal.read_numbers-requires
read_numbers-requires c =
    let small = small-sizes _ _ _ (sym c.in_ok-sizes_refusal.ensures) in
    (small.dim, small.degree, small.count)

pub returns : goal.returns
returns c =
    let a = c.args in
    head-asked a.rev a.n a.rest.now _ c.sizes.ensures _ _ c.in-Some.is _ c.read_numbers.new.lines
    c.read_numbers.result c.in_ok-sizes_refusal.ensures refl c.read_numbers.ensures
