-- `curve_refusal` equals its definition: the sizes, then the first check from 4 on that fails gives its number.
use mathlib.Core.Path.{◌≡◌, sym, ◌∙◌}
use mathlib.Core.List.{List, [], ◌∷◌}
use mathlib.Core.Bool.{Bool, true}
use Prim.Native.Nat.{ℕ}
use native.Mathlib.Omega.{arith}
use Rattle.model.specs.Call.{Curve, lengths_fit, numbers_usable, bounds_ordered, weights_fit, knots_fit, first_failed}
use Rattle.model.specs.Call.{sizes_refusal, curve_refusal}
use Rattle.model.proofs.Numbers.{some_number, handed}
use Rattle.model.proofs.Checks.{none_left, pass, fail, else_left, else_taken, SmallSizes, small-sizes}
use Rattle.geometry.specs.declared.call.Lent.{Lent}
use Rattle.geometry.specs.Call.{curve_in}
use Rattle.geometry.proofs.call.Checks.{lengths_are}
use Rattle.model.specs.NurbCurve.{weights_positive}
use Rattle.geometry.proofs.call.Lent.curve_refusal.Goals as goal

-- ---- behind each check that is passed, the refusal is that of the checks that are left

module _ (q : Lent) where
  abbrev v : Curve
  v = curve_in q

  -- The refusal is that of the checks l, from number n on.
  abbrev Left : ℕ → List (Curve → Bool) → Type 0
  Left n l = curve_refusal q.dim q.point_box.now q.resolution v ≡ first_failed v n l

  -- Checks 4, 5 and 6 look at what is lent beside the curve.
  abbrev lengths : Curve → Bool
  lengths = lengths_fit q.dim q.point_box.now

  abbrev numbers : Curve → Bool
  numbers = numbers_usable q.point_box.now q.resolution

  abbrev bounds : Curve → Bool
  bounds = bounds_ordered q.dim q.point_box.now

  past3 : sizes_refusal q.dim q.degree q.count ≡ 0 → Left 4 (lengths ∷ numbers ∷ bounds ∷ weights_fit ∷ knots_fit ∷ [])
  unfolding curve_refusal
  past3 h = else_left _ _ h

  module _ (h : sizes_refusal q.dim q.degree q.count ≡ 0) (l : lengths v ≡ true) where
    past4 : Left 5 (numbers ∷ bounds ∷ weights_fit ∷ knots_fit ∷ [])
    past4 = past3 h ∙ pass _ 4 lengths _ l

    past5 : numbers v ≡ true → Left 6 (bounds ∷ weights_fit ∷ knots_fit ∷ [])
    past5 n = past4 ∙ pass _ 5 numbers _ n

    past6 : numbers v ≡ true → bounds v ≡ true → Left 7 (weights_fit ∷ knots_fit ∷ [])
    past6 n b = past5 n ∙ pass _ 6 bounds _ b

    past7 : numbers v ≡ true → bounds v ≡ true → weights_fit v ≡ true → Left 8 (knots_fit ∷ [])
    past7 n b w = past6 n b ∙ pass _ 7 weights_fit _ w

-- ---- the answers

pub returns-in_err-sizes_refusal : goal.returns-in_err-sizes_refusal
unfolding curve_refusal
returns-in_err-sizes_refusal c =
    let e = c.in_err-sizes_refusal.ensures in
    let some = some_number _ in
    handed _ _ c.from_residual.ensures.1 ∙ e ∙ sym (else_taken _ _ (λ z. some (e ∙ z)))

pub lengths_fit-requires : goal.lengths_fit-requires
lengths_fit-requires c =
    let g = c.args.self in
    let z : SmallSizes g.dim g.degree g.count = small-sizes _ _ _ (sym c.in_ok-sizes_refusal.ensures) in
    (z.dim, z.degree, z.count)

pub returns-then-not-lengths_fit : goal.returns-then-not-lengths_fit
returns-then-not-lengths_fit c =
    let sizes = sym c.in_ok-sizes_refusal.ensures in
    sym (past3 c.args.self sizes ∙ fail _ 4 (lengths c.args.self) _ (sym c.lengths_fit.ensures ∙ c.if-not-lengths_fit.true))

pub returns-then-not-numbers_usable : goal.returns-then-not-numbers_usable
returns-then-not-numbers_usable c =
    let sizes = sym c.in_ok-sizes_refusal.ensures in
    let long = sym c.lengths_fit.ensures ∙ c.if-not-lengths_fit.false in
    sym (past4 c.args.self sizes long ∙ fail _ 5 (numbers c.args.self) _ (sym c.numbers_usable.ensures ∙ c.if-not-numbers_usable.true))

pub bounds_ordered-requires : goal.bounds_ordered-requires
unfolding lengths_fit
bounds_ordered-requires c =
    let g = c.args.self in
    let z : SmallSizes g.dim g.degree g.count = small-sizes _ _ _ (sym c.in_ok-sizes_refusal.ensures) in
    let l = lengths_are _ g.degree g.count _ g.dim _ g.dim (sym c.lengths_fit.ensures ∙ c.if-not-lengths_fit.false) in
    record { sizes = (z.dim, z.count); points_in_bounds = l.1; sides_in_bounds = l.2 }

pub returns-then-not-bounds_ordered : goal.returns-then-not-bounds_ordered
returns-then-not-bounds_ordered c =
    let sizes = sym c.in_ok-sizes_refusal.ensures in
    let long = sym c.lengths_fit.ensures ∙ c.if-not-lengths_fit.false in
    let finite = sym c.numbers_usable.ensures ∙ c.if-not-numbers_usable.false in
    sym (past5 c.args.self sizes long finite ∙ fail _ 6 (bounds c.args.self) _ (sym c.bounds_ordered.ensures ∙ c.if-not-bounds_ordered.true))

pub polygon-requires : goal.polygon-requires
unfolding lengths_fit
polygon-requires c =
    let g = c.args.self in
    let z : SmallSizes g.dim g.degree g.count = small-sizes _ _ _ (sym c.in_ok-sizes_refusal.ensures) in
    let l = lengths_are _ g.degree g.count _ g.dim _ g.dim (sym c.lengths_fit.ensures ∙ c.if-not-lengths_fit.false) in
    (z.dim, z.count, l.1)

pub returns-then-not-weights_positive : goal.returns-then-not-weights_positive
unfolding weights_fit
returns-then-not-weights_positive c =
    let sizes = sym c.in_ok-sizes_refusal.ensures in
    let long = sym c.lengths_fit.ensures ∙ c.if-not-lengths_fit.false in
    let finite = sym c.numbers_usable.ensures ∙ c.if-not-numbers_usable.false in
    let ordered = sym c.bounds_ordered.ensures ∙ c.if-not-bounds_ordered.false in
    sym (past6 c.args.self sizes long finite ordered ∙ fail _ 7 weights_fit _ (sym (c.weights_positive.ensures ∙ (λ i. weights_positive (c.polygon.ensures.0 i) (c.polygon.ensures.2 i))) ∙ c.if-not-weights_positive.true))

pub knots_valid-requires : goal.knots_valid-requires
unfolding lengths_fit
knots_valid-requires c =
    let g = c.args.self in
    let z : SmallSizes g.dim g.degree g.count = small-sizes _ _ _ (sym c.in_ok-sizes_refusal.ensures) in
    let l = lengths_are _ g.degree g.count _ g.dim _ g.dim (sym c.lengths_fit.ensures ∙ c.if-not-lengths_fit.false) in
    (z.degree, (omega (arith, z.room, l.0), omega (arith, l.0)))

pub returns-then-not-knots_valid : goal.returns-then-not-knots_valid
unfolding weights_fit knots_fit
returns-then-not-knots_valid c =
    let sizes = sym c.in_ok-sizes_refusal.ensures in
    let long = sym c.lengths_fit.ensures ∙ c.if-not-lengths_fit.false in
    let finite = sym c.numbers_usable.ensures ∙ c.if-not-numbers_usable.false in
    let ordered = sym c.bounds_ordered.ensures ∙ c.if-not-bounds_ordered.false in
    let weights = sym (c.weights_positive.ensures ∙ (λ i. weights_positive (c.polygon.ensures.0 i) (c.polygon.ensures.2 i))) ∙ c.if-not-weights_positive.false in
    sym (past7 c.args.self sizes long finite ordered weights ∙ fail _ 8 knots_fit _ (sym c.knots_valid.ensures ∙ c.if-not-knots_valid.true))

pub returns : goal.returns
unfolding weights_fit knots_fit
returns c =
    let sizes = sym c.in_ok-sizes_refusal.ensures in
    let long = sym c.lengths_fit.ensures ∙ c.if-not-lengths_fit.false in
    let finite = sym c.numbers_usable.ensures ∙ c.if-not-numbers_usable.false in
    let ordered = sym c.bounds_ordered.ensures ∙ c.if-not-bounds_ordered.false in
    let weights = sym (c.weights_positive.ensures ∙ (λ i. weights_positive (c.polygon.ensures.0 i) (c.polygon.ensures.2 i))) ∙ c.if-not-weights_positive.false in
    sym (past7 c.args.self sizes long finite ordered weights ∙ pass _ 8 knots_fit _ (sym c.knots_valid.ensures ∙ c.if-not-knots_valid.false) ∙ none_left _ 9)
