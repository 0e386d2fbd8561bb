-- `nibble` reads a table, which has what the definition says of each byte.
use mathlib.Core.Path.{◌≡◌, refl, ap, ◌∙◌}
use mathlib.Core.List.{map}
use Prim.Native.Nat.{ℕ, ◌<◌}
use native.Mathlib.Omega.{arith}
use lib.ListN.{get_or}
use Rattle.std.proofs.lemmas.List.FromFn.{get_or-map-range_with_len}
use Rattle.std.specs.List.{range_with_len}
use Rattle.text.specs.Numerals.{nibble}
use Rattle.text.specs.declared.numerals.TheConstants.{NIBBLES}
use Rattle.text.proofs.numerals.nibble.Goals as goal

table_is : NIBBLES ≡ map nibble (range_with_len 0 256)
unfolding nibble
table_is = refl

there : (b : ℕ) → b < 256 → get_or NIBBLES b 0 ≡ nibble b
there b h = ap (λ t. get_or t b 0) table_is ∙ get_or-map-range_with_len nibble 0 256 b b 0 h (omega arith)

pub returns : goal.returns
returns c = rw c.from.ensures (there c.args.b (omega arith))
