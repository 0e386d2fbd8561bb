-- `double` reads sixteen digits, or there are none.
use mathlib.Core.Path.{sym, ap, ◌∙◌}
use Rattle.text.specs.Numerals.{double_of}
use Rattle.text.proofs.numerals.Hexadecimal.{double_short, double_none, double_digits, double_got}
use Rattle.text.proofs.numerals.double.Goals as goal

pub returns-in_err-digits : goal.returns-in_err-digits
returns-in_err-digits c = rw c.from_residual.ensures (sym (double_short c.args.rest.now c.in_err-digits.ensures.cases))

pub returns-then-not-all_hex : goal.returns-then-not-all_hex
returns-then-not-all_hex c =
    let s = c.in_ok-digits.ensures.cases in
    double_none c.args.rest.now _ c.in_ok-digits.left.now s.0 s.1 s.2 _ c.all_hex.ensures c.if-not-all_hex.true

pub hex_of-requires : goal.hex_of-requires
hex_of-requires c =
    let s = c.in_ok-digits.ensures.cases in
    let left = c.in_ok-digits.left.now in
    (s.3, double_digits c.args.rest.now _ left s.0 s.1 s.2 _ c.all_hex.ensures c.if-not-all_hex.false)

pub returns : goal.returns
returns c =
    let s = c.in_ok-digits.ensures.cases in
    double_got c.args.rest.now _ c.in_ok-digits.left.now s.0 s.1 s.2 _ c.all_hex.ensures c.if-not-all_hex.false _
    (c.double_of.ensures ∙ ap double_of c.hex_of.ensures)
