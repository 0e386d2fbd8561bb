-- `put_sizes` writes the four lines, one behind the other.
use Rattle.text.specs.Bytes.{bytes}
use Rattle.text.specs.Form.{sizes_text}
use Rattle.text.proofs.print.Writing.{four-joined}
use Prim.Native.Nat.{◌≤◌}
use native.Mathlib.Omega.{arith}
use Rattle.text.proofs.rewrite.put_sizes.Goals as goal

pub returns : goal.returns
unfolding sizes_text bytes
returns c =
    let u = c.put_small-i.ensures in
    let v = c.put_small-j.ensures in
    let w = c.put_small-k.ensures in
    let x = c.put_small.ensures in
    let h : c.put_small.result ≤ 105 = omega (arith, u.1, v.1, w.1, x.1) in
    (four-joined (omega (arith, h, c.requires)) u.0 v.0 w.0 x.0, h)
