-- `root::guess` meets its contract: none of its floating-point steps meets a NaN's bits.
use Rattle.math.proofs.root.Estimate.{plain_ok, first_ok}
use Rattle.math.proofs.root.guess.Goals as goal

pub float_from_bits-x : goal.float_from_bits-x
float_from_bits-x c = plain_ok _ c.pattern-b.ensures

pub float_from_bits-y0 : goal.float_from_bits-y0
float_from_bits-y0 c = first_ok _
