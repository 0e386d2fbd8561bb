-- `slot_words` equals its definition.
use Rattle.geometry.proofs.call.Checks.{slot-words}
use Rattle.geometry.proofs.call.slot_words.Goals as goal

pub returns : goal.returns
returns c = slot-words c.args.dim c.args.degree c.args.count
