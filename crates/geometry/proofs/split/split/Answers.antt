-- `split` equals its definition: no cut where t does not lie inside, and else a copy, the cut in it, and its two parts in their slots.
use mathlib.Core.Path.{sym, ◌∙◌}
use mathlib.Core.Logic.{inl}
use Rattle.math.specs.Revision.{arithmetic}
use Rattle.geometry.proofs.split.Splits.{split_none, split_done, whole-count, held₁, whole₁, held₂, upto₂, inside₂, held₃, upto₃}
use Rattle.geometry.proofs.split.split.Goals as goal

pub returns-then-not-is_inside : goal.returns-then-not-is_inside
returns-then-not-is_inside ty c =
    let g = c.args in
    split_none (arithmetic ty.R.Revision.second) g.s g.work.now g.src g.left g.right g.t c.requires.held.0 c.requires.held.1 c.requires.held.2 c.requires.held.3 c.requires.apart.0 c.requires.apart.1 c.requires.apart.2 (sym c.is_inside.ensures ∙ c.if-not-is_inside.true)

pub insert_to_full_multiplicity-at-requires : goal.insert_to_full_multiplicity-at-requires
insert_to_full_multiplicity-at-requires ty c =
    let g = c.args in
    let d = sym c.is_inside.ensures ∙ c.if-not-is_inside.false in
    let h = held₁ (arithmetic ty.R.Revision.second) g.s g.work.now g.src g.left g.right g.t c.requires.held.0 c.requires.held.1 c.requires.held.2 c.requires.held.3 c.requires.apart.0 c.requires.apart.1 c.requires.apart.2 d _ c.copy_right.ensures in
    let q = whole-count g.s _ g.left h (whole₁ (arithmetic ty.R.Revision.second) g.s g.work.now g.src g.left g.right g.t c.requires.held.0 c.requires.held.1 c.requires.held.2 c.requires.held.3 c.requires.apart.0 c.requires.apart.1 c.requires.apart.2 d _ c.copy_right.ensures) in
    (h, q.0, q.1)

pub copy_right-requires-2 : goal.copy_right-requires-2
copy_right-requires-2 ty c =
    let g = c.args in
    let d = sym c.is_inside.ensures ∙ c.if-not-is_inside.false in
    let i = c.insert_to_full_multiplicity-at.ensures in record {
      held = (
        held₂ (arithmetic ty.R.Revision.second) g.s g.work.now g.src g.left g.right g.t c.requires.held.0 c.requires.held.1 c.requires.held.2 c.requires.held.3 c.requires.apart.0 c.requires.apart.1 c.requires.apart.2 d _ c.copy_right.ensures _ _ i,
        inside₂ (arithmetic ty.R.Revision.second) g.s g.work.now g.src g.left g.right g.t c.requires.held.0 c.requires.held.1 c.requires.held.2 c.requires.held.3 c.requires.apart.0 c.requires.apart.1 c.requires.apart.2 d _ c.copy_right.ensures _ _ i,
        upto₂ (arithmetic ty.R.Revision.second) g.s g.work.now g.src g.left g.right g.t c.requires.held.0 c.requires.held.1 c.requires.held.2 c.requires.held.3 c.requires.apart.0 c.requires.apart.1 c.requires.apart.2 d _ c.copy_right.ensures _ _ i,
      );
      apart = inl c.requires.apart.2;
    }

pub keep_left-requires : goal.keep_left-requires
keep_left-requires ty c =
    let g = c.args in
    let d = sym c.is_inside.ensures ∙ c.if-not-is_inside.false in
    let i = c.insert_to_full_multiplicity-at.ensures in (
      held₃ (arithmetic ty.R.Revision.second) g.s g.work.now g.src g.left g.right g.t c.requires.held.0 c.requires.held.1 c.requires.held.2 c.requires.held.3 c.requires.apart.0 c.requires.apart.1 c.requires.apart.2 d _ c.copy_right.ensures _ _ i _ c.copy_right-2.ensures,
      upto₃ (arithmetic ty.R.Revision.second) g.s g.work.now g.src g.left g.right g.t c.requires.held.0 c.requires.held.1 c.requires.held.2 c.requires.held.3 c.requires.apart.0 c.requires.apart.1 c.requires.apart.2 d _ c.copy_right.ensures _ _ i _ c.copy_right-2.ensures,
    )

pub returns : goal.returns
returns ty c =
    let g = c.args in
    let d = sym c.is_inside.ensures ∙ c.if-not-is_inside.false in
    let i = c.insert_to_full_multiplicity-at.ensures in
    split_done (arithmetic ty.R.Revision.second) g.s g.work.now g.src g.left g.right g.t c.requires.held.0 c.requires.held.1 c.requires.held.2 c.requires.held.3 c.requires.apart.0 c.requires.apart.1 c.requires.apart.2 d _ c.copy_right.ensures _ _ i _ c.copy_right-2.ensures _ c.keep_left.ensures
