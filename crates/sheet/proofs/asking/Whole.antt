-- What the type of a sheet says of its sum: it is 150 numbers, each of them a byte. Leans on what the arrays of the language are.
use Prim.Native.Nat.{ℕ, zero, suc}
use native.Mathlib.Nat.{not-suc-le-zero, le_of_suc-le-suc}
use mathlib.Core.Path.{◌≡◌}
use mathlib.Core.List.{List, [], ◌∷◌}
use lib.ListN.{length}
use mir.Val.{Val}
use denote.Shadow.{shadow}
use denote.Array.{each, in_array}
use denote.Builtin.{u8}
use Rattle.sheet.specs.Sum.{AllBytes}

-- What is said of an array of 150 bytes. In the `type_inv` of a sheet this is `.1.1.1.1.1.1.1.0`: the sum is the last of its six fields.
abbrev pub Held : List ℕ → List Val → Type 0
Held l vs = shadow (in_array ℕ u8.own_val 150 l vs)

pub held_long : (l : List ℕ) (vs : List Val) → Held l vs → length l ≡ 150
held_long l vs h = h.1.0.1

each_byte : (l : List ℕ) (us : List Val) → shadow (each ℕ u8.own_val l us) → AllBytes l
each_byte [] us h i lt = absurd (not-suc-le-zero lt)
each_byte (b ∷ l) [] h i lt = absurd h
each_byte (b ∷ l) (u ∷ us) h zero lt = h.0.1
each_byte (b ∷ l) (u ∷ us) h (suc i) lt = each_byte l us h.1 i (le_of_suc-le-suc lt)

pub held_bytes : (l : List ℕ) (vs : List Val) → Held l vs → AllBytes l
held_bytes l vs h = each_byte l h.0 h.1.1
