-- `coordinate` is the interval at its place.
use mathlib.Core.Path.{◌∙◌}
use Rattle.geometry.proofs.nurb_curve.Points.{coordinate_at}
use Rattle.geometry.proofs.nurb_curve.Polygon.coordinate.Goals as goal

pub returns : goal.returns
returns c = c.scalar_at.ensures ∙ coordinate_at c.args.self.dim c.args.i c.args.k c.args.self.words.now c.requires.0
