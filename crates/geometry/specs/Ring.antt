-- The ring of slots: the pieces that wait in it, and memories that differ in a slot or two alone. Definitions only.
use Rattle.std.specs.Prelude.{ℕ, ◌+◌, ◌*◌, ◌≤◌, ◌<◌, ◌≡◌, ◌⊎◌, List, length, Float}
use Rattle.lists.specs.Lists.{part, tab}
use Rattle.lists.specs.Ring.{wrapped}
use Rattle.model.specs.Subdivide.{Waiting}
use Rattle.geometry.specs.Slots.{words_of, waits_at, Sized, Waits}
use Rattle.geometry.specs.declared.slots.Shape.{Shape}

-- Where slot number j begins.
abbrev pub base_of : Shape → ℕ → ℕ
base_of s j = j * words_of s

-- Where the slot at place j from slot h on begins, in a ring of so many slots.
abbrev pub ring_base : Shape → ℕ → ℕ → ℕ → ℕ
ring_base s slots h j = wrapped slots (h + j) * words_of s

-- The n pieces that wait in a ring of so many slots, from slot h on.
unfoldable pub waiting : Shape → List Float → ℕ → ℕ → ℕ → List Waiting
waiting s l slots h n = tab n (λ j. waits_at s l (ring_base s slots h j))

-- The ring lies inside the memory, and in each of its n slots from h on a piece waits.
pub record Ring (s : Shape) (l : List Float) (slots h n : ℕ) : Type 0 where
  pub sized : Sized s
  pub fits : slots * words_of s ≤ length l
  pub start : h < slots
  pub full : n ≤ slots
  pub waits : (j : ℕ) → j < n → Waits s l (ring_base s slots h j)

-- The w words from x on lie outside the slot at a.
abbrev pub Outside : Shape → ℕ → ℕ → ℕ → Type 0
Outside s a x w = (x + w ≤ a) ⊎ (a + words_of s ≤ x)

-- The memory m is as long as l, and differs from it at most in the slots at a and b.
pub record Beside (s : Shape) (a b : ℕ) (l m : List Float) : Type 0 where
  pub long : length m ≡ length l
  pub same : (x w : ℕ) → Outside s a x w → Outside s b x w → part m x w ≡ part l x w
