-- `small` reads what its definition reads.
use mathlib.Core.Path.{sym, ap, ◌∙◌}
use Rattle.text.specs.Bytes.{got}
use Rattle.text.proofs.numerals.Decimal.{small-bad, small-got}
use Rattle.text.specs.Numerals.{decimal_of}
use Rattle.text.proofs.numerals.small.Goals as goal

pub returns-then-not-is_small : goal.returns-then-not-is_small
returns-then-not-is_small c =
    let count = c.digits-n in
    small-bad _ count.result count.ensures.0 (sym c.is_small.ensures ∙ c.if-not-is_small.true)

pub returns : goal.returns
returns c =
    let number = c.decimal_of in
    let count = c.digits-n in
    let cut = c.split_at.ensures in
    let is_one = sym c.is_small.ensures ∙ c.if-not-is_small.false in (
      number.ensures.1,
      small-got c.args.rest.now count.result number.result count.ensures.0 is_one
          (number.ensures.0 ∙ ap decimal_of cut.front)
          ∙ ap (got number.result) (sym cut.back),
    )
