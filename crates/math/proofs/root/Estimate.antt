-- What `guess` owes: no bit pattern that it makes is a NaN's, and it reads no NaN's bits. It leans on the laws of patterns in Doubles/Tests.antt.
use Prim.Native.Nat.{ℕ, ◌-◌, ◌/◌, ◌≤◌, ◌<◌}
use native.Mathlib.Omega.{arith}
use mathlib.Core.Bool.{not}
use lib.Dec.{T}
use lib.Ieee.{binary64, nan_bits}
use Rattle.math.proofs.Doubles.Tests.{no-nan_bits, pattern-ok}

pub plain_ok : (b : ℕ) → b < 0x4010_0000_0000_0000 → T (not (nan_bits binary64 b))
plain_ok b h = no-nan_bits b (pattern-ok b (up b h))
  where
    up : (b : ℕ) → b < 0x4010_0000_0000_0000 → b ≤ 0x7ff0_0000_0000_0000
    up b h = omega arith

pub first_ok : (b : ℕ) → T (not (nan_bits binary64 (0x5fe6_eb50_c7b5_37a9 - b / 2)))
first_ok b = no-nan_bits (0x5fe6_eb50_c7b5_37a9 - b / 2) (pattern-ok (0x5fe6_eb50_c7b5_37a9 - b / 2) (up b))
  where
    up : (b : ℕ) → 0x5fe6_eb50_c7b5_37a9 - b / 2 ≤ 0x7ff0_0000_0000_0000
    up b = omega arith
