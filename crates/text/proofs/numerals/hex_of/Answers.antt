-- `hex_of` gives the number that the digits are. Invariant: v is the number that those passed are.
use mathlib.Core.Path.{◌≡◌, ◌∙◌}
use Prim.Native.Nat.{◌≤◌, ◌<◌}
use native.Mathlib.Omega.{arith}
use lib.ListN.{get_or}
use Rattle.text.specs.Numerals.{nibble}
use Rattle.text.proofs.numerals.Base.{known_none, known_turn, known_most}
use Rattle.text.proofs.numerals.Hexadecimal.{hex_known}
use Rattle.text.proofs.numerals.hex_of.Goals as goal

pub loop-b-init : goal.loop-b-init
loop-b-init c = known_none

-- before the last digit
pub overflow_mul-v : goal.overflow_mul-v
overflow_mul-v c =
    let few : c.loop-b.v < 1152921504606846976 =
    known_most c.loop-b.invariant 15 (omega arith) (omega (arith, c.requires)) in
    omega (arith, few)

-- the digit, which is below 16
digit : (c : goal.After-from)
    → let d = nibble (get_or c.args.digits.now c.loop-b.b-index 0) in (c.from.result ≡ d) × (d ≤ 15)
digit c =
    (c.from.ensures ∙ c.nibble.ensures, hex_known c.args.digits.now c.loop-b.b-index c.requires.1 (omega arith))

pub overflow_add-v : goal.overflow_add-v
overflow_add-v c =
    let d = digit c in
    let few : c.loop-b.v < 1152921504606846976 =
    known_most c.loop-b.invariant 15 (omega arith) (omega (arith, c.requires)) in
    omega (arith, d, few)

pub loop-b-preserved : goal.loop-b-preserved
loop-b-preserved c =
    let d = digit c in
    known_turn c.loop-b.invariant _ (omega arith) d.0 (omega (arith, d))
