-- How the code says what it read: by the value, and by the rest of the text. Definitions only.
use Rattle.std.specs.Prelude.{ℕ, ◌+◌, ◌*◌, ◌≤◌, ◌≡◌, List, [], ◌∷◌, ◌++◌, length, get_or, Float}
use Rattle.std.specs.Prelude.{Option, Some, None, Result, Ok, Err}
use Rattle.std.specs.Borrow.{Bor}
use Rattle.std.specs.Float.{nan}
use Rattle.lists.specs.Lists.{part, put}
use Rattle.model.specs.Numbers.{number_of}
use Rattle.model.specs.declared.refusal.Refusal.{Refusal}
use Rattle.text.specs.Bytes.{bytes, Read, bad, got, then, word}
use Rattle.text.specs.Numerals.{double}
use Rattle.text.specs.Question.{small_line, line, lines}
use Rattle.text.specs.Question.{Sizes, knot_doubles, point_doubles, box_doubles, Numbers}
use Rattle.text.specs.Question.{Reading, refused_by, asks}
use Rattle.text.specs.declared.cursor.Asked.{Asked}

-- These sizes are in range.
abbrev pub Small : Sizes → Type 0
Small s = (s.dim ≤ 3) × (s.degree ≤ 7) × (s.count ≤ 32)

-- What was read, in the words of the definitions: nothing, or a value and the rest behind it.
abbrev pub read_of : {A : Type 0} → Option (A × Bor (List ℕ)) → Read A
read_of None = bad
read_of (Some (x, rest)) = got x rest.now

-- The same of a word, which has no value.
abbrev pub word_of : Option (Bor (List ℕ)) → Read (Unit {0})
word_of None = bad
word_of (Some rest) = got tt rest.now

-- A small number was read, which has at most nine digits, or there is none.
abbrev pub SmallRead : Read ℕ → Option (ℕ × Bor (List ℕ)) → Type 0
SmallRead spec None = spec ≡ bad
SmallRead spec (Some (n, rest)) = (n ≤ 999999999) × (spec ≡ got n rest.now)

-- ---- doubles

-- A double and the byte b behind it.
unfoldable pub value : ℕ → List ℕ → Read Float
value b t = then (double t) (λ x a. then (word (b ∷ []) a) (λ _ rest. got x rest))

-- n doubles were read, and written to the memory l from `to` on, which became m.
pub record ValuesAt (spec : Read (List Float)) (n to : ℕ) (l m : List Float) (rest : List ℕ) : Type 0 where
  pub xs : List Float
  pub reads : spec ≡ got xs rest
  pub long : length xs ≡ n
  pub wrote : m ≡ put l to xs

-- They were read and written, or they are not there.
abbrev pub ValuesRead : Read (List Float) → ℕ → ℕ → List Float → List Float → Option (Bor (List ℕ)) → Type 0
ValuesRead spec n to l m None = spec ≡ bad
ValuesRead spec n to l m (Some rest) = ValuesAt spec n to l m rest.now

-- ---- the other lines

-- The lines of the nodes and the resolution.
unfoldable pub limits : List ℕ → Read (List Float)
limits t = then (small_line (bytes "nodes=") t) (λ _ a. line (bytes "resolution=") 1 a)

-- They were read from t on; the resolution was written to the front of the memory l, which became m.
pub record LimitsAt (t : List ℕ) (l m : List Float) (nodes : ℕ) (rest : List ℕ) : Type 0 where
  pub few : nodes ≤ 999999999
  pub behind_nodes : List ℕ
  pub resolution : Float
  pub nodes_read : small_line (bytes "nodes=") t ≡ got nodes behind_nodes
  pub resolution_read : line (bytes "resolution=") 1 behind_nodes ≡ got (resolution ∷ []) rest
  pub wrote : m ≡ put l 0 (resolution ∷ [])

-- Both lines were read, or they are not there.
abbrev pub LimitsRead : List ℕ → List Float → List Float → Option (ℕ × Bor (List ℕ)) → Type 0
LimitsRead t l m None = limits t ≡ bad
LimitsRead t l m (Some (nodes, rest)) = LimitsAt t l m nodes rest.now

-- The lines of the knots, the points and the box from t on.
unfoldable pub shape : Sizes → List ℕ → Read (List Float)
shape s t =
    then (line (bytes "knots=") (knot_doubles s) t) (λ knots a.
    then (lines (bytes "point=") (point_doubles s) s.count a) (λ points b.
    then (line (bytes "box=") (box_doubles s) b) (λ box rest.
    got (knots ++ points ++ box) rest)))

-- The knots, the points and the box are as long as the sizes say.
pub record Long (s : Sizes) (knots points box : List Float) : Type 0 where
  pub knots_long : length knots ≡ knot_doubles s
  pub points_long : length points ≡ point_doubles s * s.count
  pub box_long : length box ≡ box_doubles s

-- These lines were read, and written to the memory l from its second place on, which became m.
pub record ShapeAt (t : List ℕ) (s : Sizes) (l m : List Float) (rest : List ℕ) : Type 0 where
  pub knots : List Float
  pub points : List Float
  pub box : List Float
  pub behind_knots : List ℕ
  pub behind_points : List ℕ
  pub knots_read : line (bytes "knots=") (knot_doubles s) t ≡ got knots behind_knots
  pub points_read : lines (bytes "point=") (point_doubles s) s.count behind_knots ≡ got points behind_points
  pub box_read : line (bytes "box=") (box_doubles s) behind_points ≡ got box rest
  pub long : Long s knots points box
  pub wrote : m ≡ put l 1 (knots ++ points ++ box)

-- The three lines were read, or they are not there.
abbrev pub ShapeRead : List ℕ → Sizes → List Float → List Float → Option (Bor (List ℕ)) → Type 0
ShapeRead t s l m None = shape s t ≡ bad
ShapeRead t s l m (Some rest) = ShapeAt t s l m rest.now

-- The doubles of a question as the code lays them down: the resolution, the knots, the points, the box.
abbrev pub laid : Numbers → List Float
laid q = q.resolution ∷ (q.knots ++ q.points ++ q.box)

-- The question whose doubles are laid down at the front of the memory l.
abbrev pub numbers_in : Sizes → ℕ → List Float → Numbers
numbers_in s nodes l =
    let k = 1 + knot_doubles s in
    let p = k + point_doubles s * s.count in
    record {
      nodes = nodes;
      resolution = get_or l 0 nan;
      knots = part l 1 (knot_doubles s);
      points = part l k (point_doubles s * s.count);
      box = part l p (box_doubles s);
    }

-- All the other lines were read, and their doubles were written to the front of the memory l, which became m.
pub record NumbersAt (spec : Read Numbers) (s : Sizes) (l m : List Float) (nodes : ℕ) (rest : List ℕ) : Type 0 where
  pub says : Numbers
  pub reads : spec ≡ got says rest
  pub nodes_same : says.nodes ≡ nodes
  pub few : nodes ≤ 999999999
  pub long : Long s says.knots says.points says.box
  pub wrote : m ≡ put l 0 (laid says)

-- All of them were read, or they are not there.
abbrev pub NumbersRead : Read Numbers → Sizes → List Float → List Float → Option (ℕ × Bor (List ℕ)) → Type 0
NumbersRead spec s l m None = spec ≡ bad
NumbersRead spec s l m (Some (nodes, rest)) = NumbersAt spec s l m nodes rest.now

-- ---- the whole text

-- The question a, whose doubles are laid down at the front of the memory l.
abbrev pub question_in : Asked → List Float → Reading
question_in a l = asks a.rev a.sizes (numbers_in a.sizes a.nodes l)

-- The text comes to a question, whose doubles were written to the front of the memory m, or it is refused.
abbrev pub TextRead : Reading → List Float → Result Asked Refusal → Type 0
TextRead r m (Ok a) = r ≡ question_in a m
TextRead r m (Err e) = r ≡ refused_by (number_of e)
