-- Refusal 11 and the Rust's panic: the scope refuses by 11 where a piece that a cut hands on has a weight whose lo is not
-- above 0, and the Rust panics where a weight could be zero. On the pieces that the search of an accepted call makes this is
-- one test. Definitions only.
use Rattle.std.specs.Prelude.{ℕ, ◌≤◌, ◌≡◌, not, ◌&&◌, List, T}
use Rattle.std.specs.Float.Ieee.{lt, le}
use Rattle.exact.specs.Rational.{ℚ, 0ℚ, ◌<ℚ◌}
use Rattle.lists.specs.Lists.{all}
use Rattle.math.specs.declared.scalars.Scalar.{Scalar}
use Rattle.math.specs.Scalars.{Arithmetic, zero_f, has_zero}
use Rattle.math.specs.Values.{Holds}
use Rattle.model.specs.Vector.{Vector, coordinate}
use Rattle.model.specs.NurbCurve.{Piece, start, end, domain, weights_positive}
use Rattle.model.specs.Split.{both, split_mid, restrict}
use Rattle.model.specs.Subdivide.{Question, Step, going, over, advance}
use Rattle.model.specs.Contains.{clip, visit, begun}
use Rattle.model.specs.Call.{Call, as_piece, question}
use Rattle.model.specs.Enclosure.{Doubles, Accepted, Every}
use Rattle.std.specs.Prelude.{Some}

-- An interval that holds an exact weight above 0.
pub record Weighs (w : Scalar) : Type 0 where
  pub number : ℚ
  pub above : 0ℚ <ℚ number
  pub holds : Holds w number

-- The weights of points, whether or not they pass refusal 11's test.
pub record WeightsAbove (dim : ℕ) (points : List Vector) : Type 0 where
  -- Each holds an exact weight above 0.
  pub exact : Every (λ q. Weighs (coordinate q dim)) points
  -- The lo of each is at most its hi, so neither is a NaN; and its hi is above 0.
  pub bounds : Every (λ q. T (le (coordinate q dim).lo (coordinate q dim).hi && lt zero_f (coordinate q dim).hi)) points
  -- So every lo is above 0 just where no weight could be zero: refusal 11 is the Rust's panic.
  pub panic : weights_positive dim points ≡ all (λ q. not (has_zero (coordinate q dim))) points

-- What a visit cuts out of a piece s, before refusal 11's test.
pub record CutWeights (ar : Arithmetic) (q : Question) (s : Piece) : Type 0 where
  -- Cut down to the hat that a clip leaves of its domain, whatever the abscissae are.
  pub down : (ξ : List Scalar) (hat : Scalar)
      → clip ar q.dim s.points ξ (domain (start q.degree s) (end s)) 0 q.box ≡ Some hat
      → WeightsAbove q.dim (restrict ar q.degree hat.lo hat.hi s).piece.points
  -- Cut in two.
  pub halves : (l r : Piece) → split_mid ar q.degree s ≡ both l r
      → WeightsAbove q.dim l.points × WeightsAbove q.dim r.points

-- Where a search stands, this holds of every piece that waits; or it is over.
abbrev pub CutsWeighed : Arithmetic → Question → Step → Type 0
CutsWeighed ar q (going s) = Every (λ w. CutWeights ar q w.piece) s.queue
CutsWeighed ar q (over r) = Unit {0}

-- After any number of visits. (At degree 0 no piece is cut.)
pub record PanicsAlike (ar : Arithmetic) : Type 0 where
  pub cuts : (c : Call) → Doubles c → Accepted c → 1 ≤ c.curve.degree → (k : ℕ)
      → CutsWeighed ar (question c) (advance (visit ar (question c)) c.nodes k (begun (as_piece c.curve)))
