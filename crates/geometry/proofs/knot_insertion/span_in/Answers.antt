-- `span_in` equals its definition: the search among the slot's knots.
use mathlib.Core.Path.{sym, ap, ◌∙◌}
use lib.ListN.{length}
use Rattle.model.specs.KnotInsertion.{insertion_span}
use Rattle.geometry.proofs.slots.Counts.{count_readable}
use Rattle.geometry.proofs.slots.Piece.{count-points, knots_long}
use native.Mathlib.Omega.{arith}
use Rattle.geometry.proofs.knot_insertion.span_in.Goals as goal

pub count_at-n-requires : goal.count_at-n-requires
count_at-n-requires c =
    let r = count_readable c.args.s c.args.work.now c.args.base c.requires.0 in
    record { i_in_bounds = r.0; t = r.1 }

pub find_insertion_span-requires : goal.find_insertion_span-requires
find_insertion_span-requires c =
    (omega (arith, c.count_at-n.ensures, c.requires.1), omega (arith, c.count_at-n.ensures, ap length c.knots_in.ensures, knots_long c.args.s c.args.work.now c.args.base c.requires.0))

pub returns : goal.returns
returns c =
    c.find_insertion_span.ensures ∙ (λ j. insertion_span c.args.s.degree ((c.count_at-n.ensures ∙ sym (count-points c.args.s c.args.work.now c.args.base c.requires.0)) j) (c.knots_in.ensures j) c.args.t)
