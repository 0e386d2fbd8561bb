-- What is said of a slice that was read into. Definitions only.
use Rattle.std.specs.Prelude.{ℕ, ◌≤◌, ◌≡◌, List, length, take, drop}

-- Of a slice that held l and holds m: as long as it was, it may have changed from number a on and up to number n, and nowhere else.
pub record Filled (l m : List ℕ) (a n : ℕ) : Type 0 where
  pub from : a ≤ n
  pub upto : n ≤ length m
  pub length : length m ≡ length l
  -- What stands in front of these bytes, and what stands behind them, is as it was.
  pub front : take a m ≡ take a l
  pub back : drop n m ≡ drop n l
