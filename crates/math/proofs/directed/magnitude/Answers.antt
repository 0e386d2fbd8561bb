-- `magnitude` meets its contract: what is finite is no NaN.
use Rattle.math.proofs.Tight.Kinds.{finite_number}
use Rattle.math.proofs.directed.magnitude.Goals as goal

pub float_to_bits-result : goal.float_to_bits-result
float_to_bits-result c = finite_number c.args.x c.requires
