-- `put_points` writes k lines. Invariant: the first i stand there, and the others begin at p.
use mathlib.Core.Path.{◌≡◌}
use Prim.Native.Nat.{◌+◌, ◌*◌}
use Rattle.text.specs.Bytes.{bytes}
use Rattle.text.proofs.rewrite.Lines.{Lines}
use Rattle.text.proofs.rewrite.put_points.Given as goal

abbrev pub invariant-loop-i : goal.invariant-loop-i
invariant-loop-i l =
    let w = 6 + 17 * l.n in
    (l.p ≡ l.at + w * l.i) × Lines (bytes "point=") l.xs l.n l.k l.initial.out l.at w l.i l.out
