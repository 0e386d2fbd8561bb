-- `squared` equals its definition: the sum of at most three squares.
use native.Mathlib.Omega.{arith}
use lib.Ieee.{of_bits}
use Rattle.geometry.proofs.fat_line.Sizes.{squared-three}
use Rattle.geometry.proofs.fat_line.squared.Goals as goal

pub returns : goal.returns
unfolding of_bits
returns c =
    let a = c.args in
    squared-three a.dim a.a a.b _ _ _ (omega arith) c.with_square-s.ensures c.with_square-t.ensures c.with_square.ensures
