-- `put_counted` writes the four counts behind their keys, and the end of the last line.
use mathlib.Core.Path.{refl}
use Rattle.text.proofs.print.Writing.{counts-written}
use Rattle.text.specs.Bytes.{bytes}
use Rattle.text.specs.Respond.{counted}
use Prim.Native.Nat.{◌+◌, ◌≤◌}
use native.Mathlib.Omega.{arith}
use Rattle.text.proofs.print.put_counted.Goals as goal

pub returns : goal.returns
unfolding bytes
returns c =
    let x = c.put_count-i.ensures in
    let y = c.put_count-j.ensures in
    let u = c.put_count-k.ensures in
    let z = c.put_count-l.ensures in
    let w = c.put_word.ensures in
    let h : c.put_word.result ≤ c.args.at + 112 = omega (arith, x.1, y.1, u.1, z.1, w.end) in (
      counts-written (counted c.args.counts c.args.pending) _ _ _ _ refl refl refl refl (omega (arith, h, c.requires)) x.0 y.0 u.0 z.0 w,
      h,
    )
