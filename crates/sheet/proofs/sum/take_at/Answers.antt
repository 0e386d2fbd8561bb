-- `take_at` takes away. The invariant: what the bytes were, and what is left to take away from byte i on, are what the bytes are and what is taken away.
use Prim.Native.Nat.{ℕ, ◌+◌, ◌-◌, ◌*◌, ◌/◌, ◌%◌, ◌^◌}
use native.Mathlib.Omega.{arith}
use mathlib.Core.Path.{sym, ap, ◌∙◌}
use lib.ListN.{set, length-set}
use Rattle.sheet.specs.Sum.{number}
use Rattle.sheet.proofs.sum.Numbers.{rest_turn, taken}
use Rattle.sheet.proofs.sum.take_at.Goals as goal

pub loop-i-preserved : goal.loop-i-preserved
loop-i-preserved c =
    let k = c.args.sum in
    let x = c.args.x in
    let a = c.args.at in
    let l = c.loop-i in (
      length-set l.s l.i _ ∙ l.invariant.0,
      omega (arith, c.from.ensures, c.loop-i-test.element_fits.fits),
      ap (λ (g : ℕ). let v = g + (256 - l.rest % 256) in
          number k + (l.rest / 256 + (1 - v / 256)) * 256 ^ (l.i + 1)) c.from.ensures
          ∙ rest_turn l.s l.i l.rest _ _ (omega (arith, l.invariant.0))
          (omega (arith, c.from.ensures, c.loop-i-test.element_fits.fits)) l.invariant.2
          ∙ ap (λ (g : ℕ). let v = g + (256 - l.rest % 256) in
          number (set l.s l.i (v % 256)) + x * 256 ^ a) (sym c.from.ensures),
    )

pub returns : goal.returns
returns c =
    let l = c.loop-i in
    taken c.args.sum c.args.at c.args.x l.s l.i l.rest c.well_formed.0.1.0.1 l.invariant.0 (omega arith) l.invariant.2
