-- `put_limits` writes the line of the nodes, and behind it that of the resolution.
use native.Mathlib.Omega.{arith}
use lib.Ieee.Bits.{is_true}
use mathlib.Core.Bool.{true, ◌&&◌}
use Rattle.lists.specs.Lists.{all}
use Rattle.text.specs.Bytes.{bytes}
use Rattle.text.specs.Printable.{is_number}
use Rattle.text.specs.Form.{limits_text}
use Rattle.text.proofs.print.Writing.{joined}
use Rattle.text.proofs.rewrite.put_limits.Goals as goal

pub put_line-requires : goal.put_line-requires
unfolding all
put_line-requires c = record {
  in_bounds = omega (arith, c.put_small-i.ensures.1);
  all_numbers = λ i. is_true (is_number c.args.resolution) c.requires.1 i && true;
}

pub returns : goal.returns
unfolding limits_text bytes
returns c =
    let u = c.put_small-i.ensures in
    let v = c.put_line.ensures in
    (joined (omega (arith, u.1)) u.0 v.0, omega (arith, u.1, v.1))
