-- `over` in revision 2: the quotient by the divisor's value.
use mathlib.Core.Path.{ap, ◌∙◌}
use Rattle.math.specs.Divided.{Divided}
use Rattle.math.specs.Scalars.{ENTIRE, value_or}
use Rattle.math.proofs.Paper.{value_or_is}
use Rattle.math.proofs.revision.SecondRevision.over.Goals as goal

pub returns : goal.returns
returns c h =
    c.unwrap_or.ensures ∙ value_or_is c.div.result c.entire.result ∙ ap (value_or c.div.result) c.entire.ensures
    ∙ ap (λ (q : Divided). value_or q ENTIRE) c.div.ensures.result
