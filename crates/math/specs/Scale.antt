-- What the square root's two steps before the root keep: the number m₀ * 2 ^ a₀ stays the same, written as m * 2 ^ a. Definitions only.
use Rattle.std.specs.Prelude.{ℕ, ◌+◌, ◌*◌, ◌^◌, ◌%◌, ◌≤◌, ◌<◌, ◌≡◌}

-- with an m of 53 binary digits: an exponent from 1074 on stays above 1020
pub record Normal (m₀ a₀ m a : ℕ) : Type 0 where
  pub same : m * 2 ^ a ≡ m₀ * 2 ^ a₀
  pub low : 2 ^ 52 ≤ m
  pub high : m < 2 ^ 53
  pub least : 1021 ≤ a
  pub most : a ≤ a₀

-- with an even a, at the cost of one more digit
pub record Even (m₀ a₀ m a : ℕ) : Type 0 where
  pub same : m * 2 ^ a ≡ m₀ * 2 ^ a₀
  pub low : m₀ ≤ m
  pub high : m ≤ 2 * m₀
  pub least : a₀ ≤ a + 1
  pub most : a ≤ a₀
  pub even : a % 2 ≡ 0
