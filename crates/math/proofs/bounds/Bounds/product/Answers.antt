-- `product` equals its definition: the least and the greatest of the four products, each pick taken from a number.
use lib.Ieee.{of_bits}
use Rattle.math.specs.Scalars.{corners}
use Rattle.math.proofs.Picks.{least_of, most_of}
use Rattle.math.proofs.bounds.Bounds.product.Goals as goal

pub returns : goal.returns
unfolding corners of_bits
returns c =
    let hi = most_of _ _ _ _ _ _ _ _ c.greater.ensures c.greater-2.ensures c.greater-3.ensures c.greater-hi.ensures in
    let lo = least_of _ _ _ _ _ _ _ _ c.lesser.ensures c.lesser-2.ensures c.lesser-3.ensures c.lesser-lo.ensures in
    λ i. record { lo = lo i; hi = hi i }
