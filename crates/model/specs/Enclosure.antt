-- Demand 3, over the scope's words: what an exact hit is, and where the bounds of a result lie. Definitions only.
use Rattle.std.specs.Prelude.{ℕ, suc, ◌+◌, ◌*◌, ◌≤◌, ◌<◌, ◌≡◌, true, false, ◌&&◌, List, [], ◌∷◌, T, length, Float}
use Rattle.std.proofs.Math.Option.{Option, none, some}
use Rattle.std.specs.Float.{inf}
use Rattle.std.specs.Float.Ieee.{lt, le, eq}
use Rattle.exact.specs.Rational.{ℚ, ◌*ℚ◌, invℚ}
use Rattle.exact.specs.Spline.{Domain, Span, Traced}
use Rattle.exact.specs.Cut.{Counted}
use Rattle.math.specs.Scalars.{Arithmetic, zero_f}
use Rattle.math.specs.Values.{value, Holds}
use Rattle.math.specs.declared.scalars.Scalar.{Scalar}
use Rattle.model.specs.NurbCurve.{Piece, knot, start, end, weights_positive}
use Rattle.model.specs.Subdivide.{Step, going, over, advance}
use Rattle.model.specs.Contains.{visit, begun}
use Rattle.model.specs.Layout.{scalar_at}
use Rattle.model.specs.Call.{Curve, Call, AllDoubles, as_piece, question, refusal, searched}
use Rattle.model.specs.Paper.{paper}
use Rattle.model.specs.declared.contains.Found.{Found}
use Rattle.model.specs.declared.refusal.Refusal.TheVariants as reason
use Rattle.model.specs.declared.contains.Found.TheVariants.{Nothing, Enclosed, Spent, Refused}

-- ---- the exact curve

-- The numbers of the knots.
abbrev pub knot_values : List Float → ℕ → ℚ
knot_values knots i = value (knot knots i)

-- The parameter t lies in the domain of the curve, from the knot numbered degree to the knot numbered count, both included.
abbrev pub DomainOf : Call → ℚ → Type 0
DomainOf c = Domain c.curve.degree c.curve.count (knot_values c.curve.knots)

-- The span of t is number k.
abbrev pub SpanOf : Call → ℚ → ℕ → Type 0
SpanOf c = Span c.curve.degree c.curve.count (knot_values c.curve.knots)

-- "There is exactly one": every parameter of the domain has a span, it has only one, and no other parameter has any. So it is for every accepted call (`one_span`).
pub record OneSpan (c : Call) : Type 0 where
  pub some : (t : ℚ) → DomainOf c t → (k : ℕ) × SpanOf c t k
  pub one : (t : ℚ) (k l : ℕ) → SpanOf c t k → SpanOf c t l → k ≡ l
  pub domain : (t : ℚ) (k : ℕ) → SpanOf c t k → DomainOf c t

-- "Exact control values are one fraction in each of the D intervals of every point": C k i is in interval k of point i. "Bounds count as inside."
pub record ControlValues (c : Call) (C : ℕ → ℕ → ℚ) : Type 0 where
  pub inside : (k i : ℕ) → k < suc c.curve.dim → i < c.curve.count → Holds (scalar_at c.curve.points (suc c.curve.dim * i + k)) (C k i)

-- "An exact point in the box is one in each of its dim intervals."
pub record PointInBox (c : Call) (x : ℕ → ℚ) : Type 0 where
  pub inside : (k : ℕ) → k < c.curve.dim → Holds (scalar_at c.box k) (x k)

-- "The exact curve at t is a given point when all dim quotients equal its values." The parameter t is a fraction of the domain, both ends included, and the rounds
-- from the exact control values on end in `last`, whose number dim is the weight.
pub record Passes (c : Call) (C : ℕ → ℕ → ℚ) (t : ℚ) (x : ℕ → ℚ) : Type 0 where
  pub last : ℕ → ℚ
  pub rounds : Traced c.curve.degree c.curve.count (knot_values c.curve.knots) C t last
  pub quotients : (k : ℕ) → k < c.curve.dim → last k *ℚ invℚ (last c.curve.dim) ≡ x k

-- An exact hit: for some exact control values, the exact curve at t is an exact point in the box.
pub record HitAt (c : Call) (t : ℚ) : Type 0 where
  pub controls : ℕ → ℕ → ℚ
  pub place : ℕ → ℚ
  pub chosen : ControlValues c controls
  pub in_box : PointInBox c place
  pub passes : Passes c controls t place

-- ---- the call and its result

-- The knots and the bounds of the box are doubles. Of the points nothing of the kind is needed.
pub record Doubles (c : Call) : Type 0 where
  pub knots : AllDoubles c.curve.knots
  pub box : AllDoubles c.box

-- "A curve is accepted when its call is refused by no number, or only by 11."
abbrev pub Accepted : Call → Type 0
Accepted c = refusal c ≡ 0

-- "Its search completes when the result is none or enclosed."
abbrev pub Completes : Found → Type 0
Completes (Nothing v) = Unit {0}
Completes (Enclosed lo hi v) = Unit {0}
Completes (Spent n v) = ⊥
Completes (Refused e v) = ⊥

-- The result has bounds, and P holds of them.
abbrev pub WithBounds : (Scalar → Type 0) → Option Scalar → Type 0
WithBounds P none = ⊥
WithBounds P (some x) = P x

-- P holds of the bounds, if the result has any.
abbrev pub OfBounds : (Scalar → Type 0) → Option Scalar → Type 0
OfBounds P none = Unit {0}
OfBounds P (some x) = P x

-- The parameter t lies between lo and hi. A result without bounds has no such t.
abbrev pub BoundsHold : Found → ℚ → Type 0
BoundsHold r t = WithBounds (λ x. Holds x t) (paper r).bounds

-- A double is not outside the domain from a to b.
abbrev pub NotOutside : Float → Float → Float → Type 0
NotOutside a b x = T (le a x && le x b)

-- Neither bound lies outside the domain of a curve.
abbrev pub BoundsInDomain : Curve → Found → Type 0
BoundsInDomain v r =
    let a = start v.degree (as_piece v) in
    let b = end (as_piece v) in
    OfBounds (λ x. NotOutside a b x.lo × NotOutside a b x.hi) (paper r).bounds

-- A zero is the positive one.
abbrev pub NoNegativeZero : Float → Type 0
NoNegativeZero x = T (eq x zero_f) → x ≡ zero_f

-- No bound is a negative zero.
abbrev pub BoundsPositiveZero : Found → Type 0
BoundsPositiveZero r = OfBounds (λ x. NoNegativeZero x.lo × NoNegativeZero x.hi) (paper r).bounds

-- lo is at most hi, and both are finite. (A comparison with a NaN is false.)
abbrev pub BoundsInOrder : Found → Type 0
BoundsInOrder r = OfBounds (λ x. T (lt (inf true) x.lo && le x.lo x.hi && lt x.hi (inf false))) (paper r).bounds

-- ---- demand 3

-- On a completed search of an accepted curve, every exact hit lies between the bounds.
abbrev pub HitsEnclosed : Call → Found → Type 0
HitsEnclosed c r = Accepted c → Completes r → (t : ℚ) → HitAt c t → BoundsHold r t

-- Every exact hit is enclosed; and of any call, no bound lies outside the domain, none is a negative zero, and the two are in order.
pub record Enclosure (ar : Arithmetic) : Type 0 where
  pub hits : (c : Call) → Doubles c → HitsEnclosed c (searched ar c)
  pub bounds : (c : Call) → Doubles c → BoundsInDomain c.curve (searched ar c)
  pub zeros : (c : Call) → BoundsPositiveZero (searched ar c)
  pub order : (c : Call) → Doubles c → BoundsInOrder (searched ar c)

-- ---- the pieces of a search

-- A piece of a curve of `count` points: its knots are as refusal 8 leaves them, it has no more points than the curve, and its weights are above 0.
pub record PieceOf (c : Call) (s : Piece) : Type 0 where
  pub long : length s.knots ≡ length s.points + c.curve.degree + 1
  pub knots : Counted c.curve.degree (length s.points) (knot_values s.knots)
  pub small : length s.points ≤ c.curve.count
  pub weights : T (weights_positive c.curve.dim s.points)

-- All of a list.
abbrev pub Every : {A : Type 0} → (A → Type 0) → List A → Type 0
Every P [] = Unit {0}
Every P (x ∷ l) = P x × Every P l

-- A search itself refuses only by 11.
abbrev pub OnlyWeights : Found → Type 0
OnlyWeights (Nothing v) = Unit {0}
OnlyWeights (Enclosed lo hi v) = Unit {0}
OnlyWeights (Spent n v) = Unit {0}
OnlyWeights (Refused e v) = e ≡ reason.Piece

-- Where a search stands, every piece that waits is such a piece; or it is over.
abbrev pub PiecesKept : Call → Step → Type 0
PiecesKept c (going s) = Every (λ w. PieceOf c w.piece) s.queue
PiecesKept c (over r) = OnlyWeights r

-- After any number of visits.
pub record Pieces (ar : Arithmetic) : Type 0 where
  pub kept : (c : Call) → Doubles c → Accepted c → 1 ≤ c.curve.degree → (k : ℕ) → PiecesKept c (advance (visit ar (question c)) c.nodes k (begun (as_piece c.curve)))
