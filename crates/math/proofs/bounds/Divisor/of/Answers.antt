-- `of` equals its definition: the divisor beside what `inverse` ensures.
use Rattle.math.specs.Bounds.{divisor_of}
use Rattle.math.proofs.bounds.Divisor.of.Goals as goal

pub returns : goal.returns
unfolding divisor_of
returns c = λ i. record { value = c.args.w; inverse = c.inverse.ensures i }
