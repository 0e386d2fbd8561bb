-- `write_refused` writes the seven lines one behind the other.
use Rattle.text.proofs.print.Writing.{refused-written}
use Rattle.text.specs.Bytes.{bytes}
use Prim.Native.Nat.{◌≤◌}
use native.Mathlib.Omega.{arith}
use Rattle.text.proofs.print.write_refused.Goals as goal

pub returns : goal.returns
unfolding bytes
returns c =
    let u = c.put_word-i.ensures in
    let v = c.put_word-j.ensures in
    let d = c.put_decimal-k.ensures in
    let x = c.put_counted-l.ensures in
    let b = c.put_word.ensures in
    let h : c.put_word.result ≤ 192 = omega (arith, u.end, v.end, d.1, x.1, b.end) in
    (refused-written c.args.number c.args.counts (omega (arith, h, c.requires)) u v d.0 x.0 b, h)
