-- REQUEST E14: no test fires in the search of any call (`never_fires`). Assumes nothing.
use mathlib.Core.Path.{◌≡◌, refl, sym, ap, ◌∙◌, subst}
use mathlib.Core.Bool.{Bool, true, false, cond}
use Prim.Native.Nat.{ℕ, zero, suc, ◌*◌}
use lib.Dec.{eqb}
use native.Mathlib.Omega.{arith}
use lib.ListN.{length}
use lib.Ieee.{nan}
use Rattle.math.specs.Scalars.{geop, sharp}
use Rattle.math.specs.Revision.{arithmetic}
use Rattle.math.specs.Values.{value, Proper}
use Rattle.math.proofs.Intervals.Instance.{geop_encloses}
use Rattle.model.specs.NurbCurve.{Piece, start, end}
use Rattle.model.specs.Aabb.{aabb, could_overlap, could_meet}
use Rattle.model.specs.FatLine.{greville}
use Rattle.model.specs.Subdivide.{Question, no_counts, dropped, advance, answered}
use Rattle.model.specs.Contains.{clipped, visit, begun, could_contain}
use Rattle.model.specs.Layout.{scalar_at, scalars_of}
use Rattle.model.specs.Call.{Call, as_piece, box_of, question, refusal, searched_by, searched, answer_to}
use Rattle.model.specs.Enclosure.{Doubles, Accepted}
use Rattle.model.specs.declared.contains.Found.{Found}
use Rattle.model.specs.declared.contains.Found.TheVariants.{Nothing}
use Rattle.model.specs.Tested as tested
use Rattle.model.specs.Tested.{fine, ◌>>=◌}
use Rattle.model.specs.Debug as debug
use Rattle.model.specs.Debug.{DebugSays, NeverFires}
use Rattle.model.proofs.Every.{every-tab, every_of}
use Rattle.model.proofs.Sound.Base.{Known}
use Rattle.model.proofs.Sound.Search.{Fine}
use Rattle.model.proofs.Sound.Accepted.{checked}
use Rattle.model.proofs.Enclosure.{first, final, whole-ok, Told, whole-told, told-union, flat_fine}
use Rattle.model.proofs.Proper.Visit.{Well, visit_well}
use Rattle.model.proofs.Proper.Lent.{resolution_number, point_proper, curve-held, box-bounded, asked}
use Rattle.model.proofs.Debug.Ops.{proper_fine, sharp_fine}
use Rattle.model.proofs.Debug.Lists.{map_fine}
use Rattle.model.proofs.Debug.Insert.{known_fine}
use Rattle.model.proofs.Debug.Box.{aabb_fine, door_fine}
use Rattle.model.proofs.Debug.Sizes.{domain_fine}
use Rattle.model.proofs.Debug.Visit.{visit-quiet}
use Rattle.model.proofs.Debug.Search.{advance_fine}

module _ (c : Call) (d : Doubles c) (acc : Accepted c) where
  abbrev q : Question
  q = question c

  abbrev s : Piece
  s = as_piece c.curve

  -- ---- a search whose visits fire no test
  by : (Good : Piece → Type 0) → Good (as_piece c.curve) → ((r : Piece) → Good r → debug.visit (question c) r ≡ fine (visit geop (question c) r))
      → ((r : Piece) → Good r → Fine (Told c d acc geop geop_encloses) Good (visit geop (question c) r)) → debug.could_contain (question c) (as_piece c.curve) ≡ fine (could_contain geop (question c) (as_piece c.curve))
  unfolding debug.could_contain could_contain
  by Good w sees fines = rw (door_fine c.curve.dim c.curve.degree s.points (box_of c) (curve-held c d acc) (asked c d acc).long (box-bounded c d acc)) (go (could_meet geop c.curve.dim c.curve.degree s.points (box_of c)))
    where
      go : (z : Bool) → cond z (debug.advance (debug.visit q) c.nodes c.nodes (begun s) >>= λ t. fine (answered t)) (fine (Nothing no_counts)) ≡ fine (cond z (answered (advance (visit geop q) c.nodes c.nodes (begun s))) (Nothing no_counts))
      go true = rw (advance_fine (visit geop q) (debug.visit q) c.nodes (Told c d acc geop geop_encloses) Good (λ _ t. t.1) (told-union c d acc geop geop_encloses) sees fines c.nodes (begun s) (record { pieces = (w, tt); inside = tt })) refl
      go false = refl

  -- ---- degree 0: every piece is the curve
  flat_out : (p : ℕ) → p ≡ 0
      → (debug.greville p (length (as_piece c.curve).points) c.curve.knots >>= λ g. debug.clipped (question c) (as_piece c.curve) g) ≡ fine (clipped geop (question c) (as_piece c.curve) (greville geop p (length (as_piece c.curve).points) c.curve.knots))
  unfolding debug.greville greville debug.clipped clipped
  flat_out zero e = rw (domain_fine (start c.curve.degree s) (end s) (first c d acc) (final c d acc)) refl
  flat_out (suc p) e = absurd (omega (arith, e))

  flat-quiet : c.curve.degree ≡ 0 → (r : Piece) → r ≡ as_piece c.curve → debug.visit (question c) r ≡ fine (visit geop (question c) r)
  flat-quiet z r e = subst (λ (r : Piece). debug.visit q r ≡ fine (visit geop q r)) (sym e) whole
    where
      whole : debug.visit q s ≡ fine (visit geop q s)
      whole = unfold debug.visit visit in rw (aabb_fine c.curve.dim s.points (curve-held c d acc)) (go (could_overlap (aabb geop c.curve.dim s.points) (box_of c)))
        where
          go : (b : Bool) → cond b (debug.greville c.curve.degree (length s.points) c.curve.knots >>= λ g. debug.clipped q s g) (fine dropped) ≡ fine (cond b (clipped geop q s (greville geop c.curve.degree (length s.points) c.curve.knots)) dropped)
          go true = flat_out c.curve.degree z
          go false = refl

  -- ---- the search
  quiet : debug.could_contain (question c) (as_piece c.curve) ≡ fine (could_contain geop (question c) (as_piece c.curve))
  quiet = go c.curve.degree refl
    where
      go : (m : ℕ) → c.curve.degree ≡ m → debug.could_contain (question c) (as_piece c.curve) ≡ fine (could_contain geop (question c) (as_piece c.curve))
      go zero e = by (λ r. r ≡ as_piece c.curve) refl (flat-quiet e) (flat_fine c d acc geop geop_encloses (Told c d acc geop geop_encloses) (whole-told c d acc geop geop_encloses) e)
      go (suc m) e =
          let a = value (start c.curve.degree s) in
          let b = value (end s) in
          by (Well c.curve.dim c.curve.degree c.curve.count a b) (whole-ok c d acc (omega (arith, e)), curve-held c d acc) (λ r W. visit-quiet q (asked c d acc) (resolution_number c d acc) r W.0.knots W.1 W.0.weights)
          (visit_well geop geop_encloses q (asked c d acc) c.curve.count a b)

  -- what is lent comes first
  accepted : debug.searched_by c 0 ≡ fine (searched_by geop c 0)
  unfolding debug.searched_by searched_by
  accepted = rw (
    map_fine Proper (λ x. tested.formed x.lo x.hi) (λ x. x) proper_fine (scalars_of (suc c.curve.dim * c.curve.count) c.curve.points) (every-tab Proper (suc c.curve.dim * c.curve.count) (λ j. scalar_at c.curve.points j) (point_proper c d acc)),
    map_fine Proper (λ x. tested.formed x.lo x.hi) (λ x. x) proper_fine (box_of c) (asked c d acc).box,
    map_fine Known tested.sharp (λ x. sharp x) known_fine c.curve.knots (every_of Known c.curve.knots nan (checked c d acc).known),
    sharp_fine c.resolution (resolution_number c d acc),
  ) quiet

-- THE LAW
pub never_fires : NeverFires
unfolding debug.searched searched
never_fires = record { same = λ c d. by_number c d (refusal c) refl }
  where
    by_number : (c : Call) → (Accepted c → Doubles c) → (n : ℕ) → refusal c ≡ n → debug.searched_by c n ≡ fine (searched_by geop c n)
    by_number c d zero e = accepted c (d e) e
    by_number c d (suc n) e = unfold debug.searched_by searched_by in refl

-- for a caller who knows the result of a call in revision 1
pub debug-says : (c : Call) (r : Found) → (Accepted c → Doubles c) → r ≡ answer_to c → c.rev ≡ 1 → DebugSays c r
debug-says c r d e one = never_fires.same c d ∙ ap fine (sym (e ∙ ap (λ (n : ℕ). searched (arithmetic (eqb n 2)) c) one))
