-- The numbers of a question, as they are lent to the search, and what its promises say. Leans on the contract of the search.
use mathlib.Core.Path.{◌≡◌, refl, sym, ap, ◌∙◌, subst}
use mathlib.Core.List.{List, []}
use Prim.Native.Nat.{ℕ}
use lib.ListN.{length}
use lib.Dec.{T}
use lib.Ieee.{Float, le}
use Rattle.math.proofs.Bools.{and_l}
use Rattle.math.proofs.Laws.{le_number_r}
use Rattle.model.specs.NurbCurve.{start, end}
use Rattle.model.specs.Call.{Curve, Call, lent, as_piece, area_after}
use Rattle.model.specs.Enclosure.{OfBounds, NotOutside, BoundsInDomain}
use Rattle.model.specs.Paper.{paper}
use Rattle.model.specs.Promise.{Answers}
use Rattle.math.specs.declared.scalars.Scalar.{Scalar}
use mathlib.Core.Option.{Option, none, some}
use Rattle.model.specs.Numbers.{refusal_of}
use Rattle.model.specs.Subdivide.{no_counts}
use Rattle.model.specs.declared.refusal.Refusal.{Refusal}
use Rattle.model.specs.declared.contains.Found.{Found}
use Rattle.model.specs.declared.contains.Found.TheVariants.{Refused}
use Rattle.model.proofs.Numbers.{refusal-of-number}
use Rattle.text.specs.Question.{Sizes, Numbers, Reading, refused_by, asks, call_of}
use Rattle.text.specs.Respond.{answered_by, AnswersReading}
use Rattle.text.specs.Printable.{is_number, Printable}

-- ---- the question that is lent

-- the search promises the same of its answer, whatever the work area held
whatever : (c : Call) (held left : List Float) (r : Found) → Answers c held left r
    → (before : List Float) → Answers c before (area_after c before) r
whatever c held left r h before = record {
  result = h.result;
  paper = h.paper;
  memory = refl;
  encloses = h.encloses;
  within = h.within;
  zeros = h.zeros;
  order = h.order;
  debug = h.debug;
}

-- the numbers that the code cuts out of the memory and lends are those of the question
pub lines-answer : (r : Found) (rev : ℕ) (s : Sizes) (q : Numbers) (x : Float) (work left ks ps bs : List Float) → ks ≡ q.knots
    → ps ≡ q.points → bs ≡ q.box → x ≡ q.resolution → 8192 ≡ length work
    → Answers (lent rev s.dim s.degree s.count ks ps bs x q.nodes (length work)) work left r
    → AnswersReading (asks rev s q) r
lines-answer r rev s q x work left ks ps bs K P B X W h before =
    subst (λ (c : Call). Answers c before (area_after c before) r)
    (λ i. lent rev s.dim s.degree s.count (K i) (P i) (B i) (X i) q.nodes (sym W i))
    (whatever _ work left r h before)

-- ---- what the promises say

-- a bound that lies in a domain is no NaN
printable : (v : Curve) (r : Found) → BoundsInDomain v r → Printable r
printable v r = by (paper r).bounds
  where
    a : Float
    a = start v.degree (as_piece v)

    b : Float
    b = end (as_piece v)

    number : (x : Float) → NotOutside a b x → T (is_number x)
    number x k = le_number_r a x (and_l (le a x) (le x b) k)

    by : (x : Option Scalar) → OfBounds (λ y. NotOutside a b y.lo × NotOutside a b y.hi) x
        → OfBounds (λ y. T (is_number y.lo) × T (is_number y.hi)) x
    by none h = tt
    by (some x) h = (number x.lo h.0, number x.hi h.1)

-- so the answer can be printed
pub answer_printable : (a : Reading) (r : Found) → AnswersReading a r → Printable r
answer_printable (refused_by n) r (e, number, h) = subst Printable (sym h) tt
answer_printable (asks rev s q) r h = printable (call_of rev s q).curve r (h []).within

-- and it is that of the definition
pub answer_same : (a : Reading) (r : Found) → AnswersReading a r → r ≡ answered_by a
unfolding answered_by
answer_same (refused_by n) r (e, number, h) =
    h ∙ ap (λ (x : Refusal). Refused x no_counts) (sym (refusal-of-number e) ∙ ap refusal_of number)
answer_same (asks rev s q) r h = (h []).result
