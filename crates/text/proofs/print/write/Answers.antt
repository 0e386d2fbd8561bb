-- `write` writes the seven lines one behind the other.
use Rattle.text.proofs.print.Writing.{printed-written}
use Rattle.text.specs.Bytes.{bytes}
use Prim.Native.Nat.{◌≤◌}
use native.Mathlib.Omega.{arith}
use Rattle.text.proofs.print.write.Goals as goal

pub returns : goal.returns
unfolding bytes
returns c =
    let u = c.put_word-i.ensures in
    let w = c.put_result-j.ensures in
    let x = c.put_counts-k.ensures in
    let b = c.put_bounds.ensures in
    let h : c.put_bounds.result ≤ 192 = omega (arith, u.end, w.1, x.1, b.1) in
    (printed-written c.args.f (omega (arith, h, c.requires.0)) u w.0 x.0 b.0, h)
