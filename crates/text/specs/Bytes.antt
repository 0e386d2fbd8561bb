-- Texts as lists of bytes, and what is read from the front of one. Definitions only.
use Rattle.std.specs.Prelude.{ℕ, List, [], ◌∷◌, cond, eqb}
use Prim.Native.Char.{code}
use Prim.Native.String as quoted
use Prim.Native.String.{String}

-- The bytes of a quoted text, whose characters are all below 128.
unfoldable pub bytes : String → List ℕ
bytes quoted.[] = []
bytes (quoted.◌∷◌ c s) = code c ∷ bytes s

-- What is read from the front of a text, and the rest of the text; or the text does not begin so.
pub data Read (A : Type 0) : Type 0 where
  bad : Read A
  got : A → List ℕ → Read A

-- After something was read, the rest of the text is read.
unfoldable pub then : {A B : Type 0} → Read A → (A → List ℕ → Read B) → Read B
then bad f = bad
then (got x t) f = f x t

-- The word w.
unfoldable pub word : List ℕ → List ℕ → Read (Unit {0})
word [] t = got tt t
word (b ∷ w) [] = bad
word (b ∷ w) (c ∷ t) = let rest = word w t in cond (eqb c b) rest bad
