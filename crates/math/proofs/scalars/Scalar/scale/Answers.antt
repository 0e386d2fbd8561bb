-- `scale` equals the product's definition, where a factor multiplies what is in order: from a number each bound is picked from two products, and widened.
use mathlib.Core.Path.{ap, ◌∙◌}
use lib.Ieee.{is_nan}
use Rattle.math.proofs.Picks.{lesser_number, greater_number, lesser-min, greater-max}
use Rattle.math.proofs.Intervals.Factors.{scale_low, scale_high, scale_is}
use Rattle.math.proofs.scalars.Scalar.scale.Goals as goal

pub down-requires : goal.down-requires
down-requires c =
    ap is_nan c.lesser.ensures ∙ lesser_number _ _ (scale_low c.args.self c.args.other c.requires.0 c.requires.1)

pub up-requires : goal.up-requires
up-requires c =
    ap is_nan c.greater.ensures ∙ greater_number _ _ (scale_high c.args.self c.args.other c.requires.0 c.requires.1)

pub returns : goal.returns
returns c =
    let t = c.args.self in
    let x = c.args.other in
    scale_is t x c.requires.0 c.requires.1 c.lesser.result c.greater.result c.down.result c.up.result
    (c.lesser.ensures ∙ lesser-min _ _ (scale_low t x c.requires.0 c.requires.1))
    (c.greater.ensures ∙ greater-max _ _ (scale_high t x c.requires.0 c.requires.1)) c.down.ensures c.up.ensures
