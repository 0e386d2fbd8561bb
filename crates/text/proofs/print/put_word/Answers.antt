-- `put_word` writes the word over the bytes from `at` on.
use mathlib.Core.Path.{refl, ◌∙◌}
use native.Mathlib.Omega.{arith}
use lib.ListN.{length}
use Rattle.std.proofs.lemmas.Slice.{put_mid-paste}
use Rattle.std.proofs.lemmas.List.Edits.{paste_all}
use Rattle.lists.specs.Lists.{put}
use Rattle.text.proofs.print.put_word.Goals as goal

pub returns : goal.returns
unfolding put
returns c =
    let g = c.args in
    let n = length g.w.now in record {
      memory =
          put_mid-paste g.at _ g.out.now _ g.w.now n c.copy_from_slice.ensures.after (omega arith) refl
          ∙ paste_all g.out.now g.at g.w.now n refl;
      end = refl;
    }
