-- `restrict` equals its definition: a copy, cut at lo and then at hi.
use Prim.Native.Nat.{ℕ, ◌≤◌}
use mathlib.Core.Path.{sym, subst}
use lib.Dec.{T}
use Rattle.math.specs.Revision.{arithmetic}
use Rattle.model.specs.Split.{from_by}
use Rattle.model.proofs.Cuts.{from-few, up_to_few}
use Rattle.geometry.specs.Slots.{piece_at, Whole, within}
use Rattle.geometry.proofs.split.Splits.{copied, copied-whole, cut_down, cut-down-whole, restricted}
use native.Mathlib.Omega.{arith}
use Rattle.geometry.proofs.split.restrict.Goals as goal

pub cut_from-from-requires : goal.cut_from-from-requires
cut_from-from-requires ty c =
    let once : Whole c.args.s (from_by (arithmetic ty.R.Revision.second) c.args.s.degree c.args.lo (piece_at c.args.s c.args.work.now c.args.src) (within c.args.s.degree (piece_at c.args.s c.args.work.now c.args.src) c.args.lo)).piece = c.requires.1.again c.requires.4 c.args.lo (subst T (sym c.well_formed.1.1.1.1.0.1) tt) in
    let g = c.args in (
      (copied (arithmetic ty.R.Revision.second) g.s g.work.now g.src g.to g.lo g.hi c.requires.0 c.requires.1.whole c.requires.2 once _ c.copy_right.ensures).held,
      copied-whole (arithmetic ty.R.Revision.second) g.s g.work.now g.src g.to g.lo g.hi c.requires.0 c.requires.1.whole c.requires.2 once _ c.copy_right.ensures,
    )

pub cut_up_to-up_to-requires : goal.cut_up_to-up_to-requires
cut_up_to-up_to-requires ty c =
    let once : Whole c.args.s (from_by (arithmetic ty.R.Revision.second) c.args.s.degree c.args.lo (piece_at c.args.s c.args.work.now c.args.src) (within c.args.s.degree (piece_at c.args.s c.args.work.now c.args.src) c.args.lo)).piece = c.requires.1.again c.requires.4 c.args.lo (subst T (sym c.well_formed.1.1.1.1.0.1) tt) in
    let g = c.args in (
      (cut_down (arithmetic ty.R.Revision.second) g.s g.work.now g.src g.to g.lo g.hi c.requires.0 c.requires.1.whole c.requires.2 once _ c.copy_right.ensures _ _ c.cut_from-from.ensures).held,
      cut-down-whole (arithmetic ty.R.Revision.second) g.s g.work.now g.src g.to g.lo g.hi c.requires.0 c.requires.1.whole c.requires.2 once _ c.copy_right.ensures _ _ c.cut_from-from.ensures,
    )

pub overflow_add-result : goal.overflow_add-result
overflow_add-result ty c =
    let g = c.args in
    let a = subst (λ (n : ℕ). n ≤ 1) (sym c.cut_from-from.ensures.cuts) (from-few (arithmetic ty.R.Revision.second) g.s.degree g.lo _ _) in
    let b = subst (λ (n : ℕ). n ≤ 1) (sym c.cut_up_to-up_to.ensures.cuts) (up_to_few (arithmetic ty.R.Revision.second) g.s.degree g.hi _ _) in
    omega (arith, a, b)

pub returns : goal.returns
returns ty c =
    let once : Whole c.args.s (from_by (arithmetic ty.R.Revision.second) c.args.s.degree c.args.lo (piece_at c.args.s c.args.work.now c.args.src) (within c.args.s.degree (piece_at c.args.s c.args.work.now c.args.src) c.args.lo)).piece = c.requires.1.again c.requires.4 c.args.lo (subst T (sym c.well_formed.1.1.1.1.0.1) tt) in
    let g = c.args in
    restricted (arithmetic ty.R.Revision.second) g.s g.work.now g.src g.to g.lo g.hi c.requires.0 c.requires.1.whole c.requires.2 once _ c.copy_right.ensures _ _ c.cut_from-from.ensures _ _ c.cut_up_to-up_to.ensures
