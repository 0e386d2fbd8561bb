-- Whether there is room, and what is written then. Assumes nothing.
use Prim.Native.Nat.{ℕ, ◌+◌, ◌≤◌}
use native.Mathlib.Omega.{arith}
use mathlib.Core.Path.{◌≡◌, sym, ◌∙◌}
use mathlib.Core.Bool.{Bool, true}
use mathlib.Core.List.{List}
use lib.ListN.{length}
use lib.Dec.{leb}
use borrow.Author.Tests.{leb-true}
use Rattle.text.specs.Printable.{Written, WrittenIn}

-- what the test says
pub room_there : {b : Bool} (bytes at n : ℕ) → b ≡ leb (at + n) bytes → b ≡ true → at + n ≤ bytes
room_there bytes at n e h = leb-true (at + n) bytes (sym e ∙ h)

-- all of it is written
pub wrote : {l ws m : List ℕ} {at r : ℕ} (n : ℕ) → at + n ≤ length l → Written l at ws m r → r ≤ at + n → WrittenIn n l at ws m r
wrote n h w few = record { room = λ _. (w, few); short = λ g. absurd (omega (arith, h, g)) }
