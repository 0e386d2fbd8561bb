-- `cut_up_to` equals its definition: nothing where t does not lie inside, and else the cut of which what is left is kept.
use mathlib.Core.Path.{refl, sym, ◌∙◌}
use Rattle.math.specs.Revision.{arithmetic}
use Rattle.geometry.proofs.split.Splits.{whole-count, cut-held, cut-upto, upto_kept, upto_none}
use Rattle.geometry.proofs.split.cut_up_to.Goals as goal

pub returns-then-not-is_inside : goal.returns-then-not-is_inside
returns-then-not-is_inside ty c =
    let g = c.args in upto_none (arithmetic ty.R.Revision.second) g.s g.work.now g.base g.t (sym c.is_inside.ensures ∙ c.if-not-is_inside.true)

pub insert_to_full_multiplicity-at-requires : goal.insert_to_full_multiplicity-at-requires
insert_to_full_multiplicity-at-requires ty c =
    let q = whole-count c.args.s c.args.work.now c.args.base c.requires.0 c.requires.1 in
    (c.requires.0, q.0, q.1)

pub keep_left-requires : goal.keep_left-requires
keep_left-requires ty c =
    let g = c.args in
    let d = sym c.is_inside.ensures ∙ c.if-not-is_inside.false in
    let i = c.insert_to_full_multiplicity-at.ensures in
    (cut-held (arithmetic ty.R.Revision.second) g.s g.work.now g.base g.t c.requires.0 c.requires.1 d _ _ i, cut-upto (arithmetic ty.R.Revision.second) g.s g.work.now g.base g.t c.requires.0 c.requires.1 d _ _ i)

pub returns : goal.returns
returns ty c =
    let g = c.args in
    let d = sym c.is_inside.ensures ∙ c.if-not-is_inside.false in
    let i = c.insert_to_full_multiplicity-at.ensures in
    upto_kept (arithmetic ty.R.Revision.second) g.s g.work.now g.base g.t c.requires.0 c.requires.1 d _ _ i _ _ c.keep_left.ensures refl
