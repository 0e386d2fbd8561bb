-- `add_at` adds. The invariant: what the bytes are, and what is left to add from byte i on, make up the sum.
use Prim.Native.Nat.{ℕ, ◌+◌, ◌*◌, ◌/◌, ◌%◌, ◌^◌}
use native.Mathlib.Omega.{arith}
use mathlib.Core.Path.{ap, ◌∙◌}
use lib.ListN.{set, length-set}
use Rattle.sheet.specs.Sum.{number}
use Rattle.sheet.proofs.sum.Numbers.{sum_turn, added}
use Rattle.sheet.proofs.sum.add_at.Goals as goal

pub loop-i-preserved : goal.loop-i-preserved
loop-i-preserved c =
    let l = c.loop-i in (
      length-set l.s l.i _ ∙ l.invariant.0,
      omega (arith, c.from.ensures, c.loop-i-test.element_fits.fits),
      ap (λ (g : ℕ). let v = g + l.rest % 256 in
          number (set l.s l.i (v % 256)) + (l.rest / 256 + v / 256) * 256 ^ (l.i + 1)) c.from.ensures
          ∙ sum_turn l.s l.i l.rest _ (omega (arith, l.invariant.0)) l.invariant.2,
    )

pub returns : goal.returns
returns c =
    let l = c.loop-i in
    added c.args.sum c.args.at c.args.x l.s l.i l.rest c.well_formed.0.1.0.1 l.invariant.0 (omega arith) l.invariant.2
