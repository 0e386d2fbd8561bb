-- `insert_to_full_multiplicity` equals its definition: the triangle or the insertions, as the two tests say.
use mathlib.Core.Path.{sym, ◌∙◌}
use Rattle.math.specs.Revision.{arithmetic}
use Rattle.geometry.proofs.knot_insertion.Cuts.{full_bezier, full_failed, full_boehm, single-held, full_from, bezier_cut_lem}
use native.Mathlib.Omega.{arith}
use Rattle.geometry.proofs.knot_insertion.insert_to_full_multiplicity.Goals as goal

pub returns-then-not-is_bezier_in : goal.returns-then-not-is_bezier_in
returns-then-not-is_bezier_in ty c =
    let g = c.args in
    full_from (arithmetic ty.R.Revision.second) g.s g.work.now _ g.base _ g.t _ (full_boehm g.s.degree g.t _ (arithmetic ty.R.Revision.second) (sym c.is_bezier_in.ensures ∙ c.if-not-is_bezier_in.true)) c.boehm_cut.ensures

pub split_bezier_span-requires : goal.split_bezier_span-requires
split_bezier_span-requires ty c =
    let g = c.args in
    let one = sym c.is_bezier_in.ensures ∙ c.if-not-is_bezier_in.false in
    (c.requires.0, single-held g.s g.work.now g.base g.t c.requires.0 one, omega (arith, c.requires.1, c.requires.2))

pub returns-in-Some : goal.returns-in-Some
returns-in-Some ty c =
    let g = c.args in
    let one = sym c.is_bezier_in.ensures ∙ c.if-not-is_bezier_in.false in
    full_from (arithmetic ty.R.Revision.second) g.s g.work.now _ g.base _ g.t _
    (full_bezier g.s.degree g.t _ (arithmetic ty.R.Revision.second) _ one (sym c.along_in.ensures ∙ c.in-Some.is))
    (bezier_cut_lem (arithmetic ty.R.Revision.second) g.s g.work.now _ g.base g.t _ c.requires.0 (single-held g.s g.work.now g.base g.t c.requires.0 one) (omega (arith, c.requires.1, c.requires.2)) c.split_bezier_span.ensures)

pub returns-in-None : goal.returns-in-None
returns-in-None ty c =
    let g = c.args in
    full_from (arithmetic ty.R.Revision.second) g.s g.work.now _ g.base _ g.t _
    (full_failed g.s.degree g.t _ (arithmetic ty.R.Revision.second) (sym c.is_bezier_in.ensures ∙ c.if-not-is_bezier_in.false) (sym c.along_in.ensures ∙ c.in-None.is))
    c.boehm_cut-in-None.ensures
