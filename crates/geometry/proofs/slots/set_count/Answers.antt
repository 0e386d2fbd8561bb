-- `set_count` writes the word of the count, and nothing else.
use Rattle.lists.proofs.Put.{put_one}
use Rattle.geometry.specs.Slots.{word}
use Rattle.geometry.proofs.slots.set_count.Goals as goal

pub returns : goal.returns
unfolding word
returns c = put_one c.args.work.now c.args.i _ c.requires.0
