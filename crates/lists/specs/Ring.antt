-- A ring of slots, counted from any of them on. Definitions only.
use Rattle.std.specs.Prelude.{ℕ, ◌-◌, cond, ltb}

-- The number of the slot at place i of a ring of cap slots, where i may have run past the end once.
unfoldable pub wrapped : ℕ → ℕ → ℕ
wrapped cap i = cond (ltb i cap) i (i - cap)
