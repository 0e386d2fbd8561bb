-- By which numbers a call is refused, and what the length of its work area has to do with it: what a caller who lends an area of its own goes by. Definitions only.
use Rattle.std.specs.Prelude.{ℕ, ◌≤◌, ◌≡◌, ◌⊎◌}
use Rattle.math.specs.Scalars.{Arithmetic}
use Rattle.model.specs.NurbCurve.{Piece}
use Rattle.model.specs.Subdivide.{Question, no_counts}
use Rattle.model.specs.Contains.{could_contain}
use Rattle.model.specs.Layout.{area_words}
use Rattle.model.specs.Call.{Call, question_refusal, refusal, stated_words, searched}
use Rattle.model.specs.Paper.{refused, paper}
use Rattle.model.specs.Enclosure.{OnlyWeights}
use Rattle.model.specs.Nodes.{with_nodes}
use Rattle.model.specs.Numbers.{number_of}
use Rattle.model.specs.declared.refusal.Refusal.{Refusal}
use Rattle.model.specs.declared.refusal.Refusal.TheVariants as reason
use Rattle.model.specs.declared.contains.Found.TheVariants.{Refused}

-- The number by which the question of a call is refused, whatever is lent to search it, or 0.
abbrev pub question_of : Call → ℕ
question_of c = question_refusal c.rev c.curve c.box c.resolution c.nodes

-- So many words are enough for a call: what `stated_words` of crates/geometry gives for its sizes. That is 0 for sizes that 1, 2, 3 or 9 refuse.
abbrev pub Enough : Call → ℕ → Type 0
Enough c words = stated_words c.curve.dim c.curve.degree c.curve.count c.nodes ≤ words

-- The same call with a work area of so many words.
abbrev pub with_words : Call → ℕ → Call
with_words c words = with_nodes c c.nodes words

-- A number by which a question is refused: 16, or 1 to 9.
abbrev pub OfQuestion : ℕ → Type 0
OfQuestion n = ((1 ≤ n) × (n ≤ 9)) ⊎ (n ≡ 16)

-- Who refuses by which number.
pub record Refusals (ar : Arithmetic) : Type 0 where
  -- A search, once it has begun, refuses only by 11.
  pub search : (q : Question) (s : Piece) → OnlyWeights (could_contain ar q s)
  -- A question is refused by 16 or by 1 to 9, or not at all,
  pub question : (c : Call) → (question_of c ≡ 0) ⊎ OfQuestion (question_of c)
  -- and a call whose work area is long enough as its question is: 10 does not come.
  pub long : (c : Call) → Enough c c.work_len → refusal c ≡ question_of c
  -- So the answer to such a call is refused by 16, 1 to 9 or 11, if at all,
  pub numbers : (c : Call) (n : ℕ) → Enough c c.work_len → (paper (searched ar c)).result ≡ refused n → OfQuestion n ⊎ (n ≡ 11)
  -- and is the same with any other work area that is long enough;
  pub areas : (c : Call) (words : ℕ) → Enough c c.work_len → Enough c words → searched ar (with_words c words) ≡ searched ar c
  -- with one that is not it is the same, too, or it is 10.
  pub or_ten : (c : Call) (words : ℕ) → Enough c c.work_len → (searched ar (with_words c words) ≡ searched ar c) ⊎ (searched ar (with_words c words) ≡ Refused reason.Work no_counts)

-- Who refuses by which number, whatever area is lent.
pub record AnyRefusals (ar : Arithmetic) : Type 0 where
  -- No other number comes than 16, 1 to 9, 10 and 11.
  pub any : (c : Call) (n : ℕ) → (paper (searched ar c)).result ≡ refused n → OfQuestion n ⊎ ((n ≡ 10) ⊎ (n ≡ 11))
  -- A call that a number refuses has the refusal of that number for an answer, with nothing counted.
  pub number : (c : Call) → (refusal c ≡ 0 → ⊥)
      → (e : Refusal) × (number_of e ≡ refusal c) × (searched ar c ≡ Refused e no_counts)

-- An area that is long enough in space, for this degree, count and nodes, is so for every call with no more of them, whatever its dim is.
pub record Rooms : Type 0 where
  pub most : (dim degree count nodes p n k : ℕ) → degree ≤ p → count ≤ n → nodes ≤ k → stated_words dim degree count nodes ≤ area_words 3 p n k
