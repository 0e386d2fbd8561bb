-- The laws of the writer (request E7), of all texts that none of 1 to 9, 12 and 16 refuses. Definitions only.
use Rattle.std.specs.Prelude.{ℕ, ◌≤◌, ◌≡◌, Bool, true, false, ◌&&◌, List, [], ◌∷◌, length, T, Float}
use Rattle.std.specs.Float.Ieee.{eq}
use Rattle.text.specs.Question.{Sizes, Numbers, asks}
use Rattle.text.specs.Form.{form, accepted}

-- ---- equal numbers

-- Two lists have equal doubles, "the zeros counting as one": this is IEEE 754's equality.
unfoldable pub equal_doubles : List Float → List Float → Bool
equal_doubles [] [] = true
equal_doubles [] (y ∷ ys) = false
equal_doubles (x ∷ xs) [] = false
equal_doubles (x ∷ xs) (y ∷ ys) = eq x y && equal_doubles xs ys

-- Two questions have equal numbers. The revision is one of them (request E8).
pub record Equal (rev rev' : ℕ) (s s' : Sizes) (q q' : Numbers) : Type 0 where
  pub revision : rev ≡ rev'
  pub sizes : s ≡ s'
  pub nodes : q.nodes ≡ q'.nodes
  pub resolution : T (eq q.resolution q'.resolution)
  pub knots : T (equal_doubles q.knots q'.knots)
  pub points : T (equal_doubles q.points q'.points)
  pub box : T (equal_doubles q.box q'.box)

-- ---- the laws

-- "What is written reads back to the same numbers, and writing it again changes no byte." It has at most 5,405 bytes.
pub record ReadsBack (rev : ℕ) (s : Sizes) (q : Numbers) : Type 0 where
  pub again : Numbers
  pub reads : accepted (form rev s q) ≡ asks rev s again
  pub same : Equal rev rev s s q again
  pub unchanged : form rev s again ≡ form rev s q
  pub short : length (form rev s q) ≤ 5405

-- It does so for every text.
abbrev pub AllReadBack : Type 0
AllReadBack = (t : List ℕ) (rev : ℕ) (s : Sizes) (q : Numbers) → accepted t ≡ asks rev s q → ReadsBack rev s q

-- "Two texts .. have equal numbers, the zeros counting as one, exactly when the writer gives them equal bytes."
abbrev pub OneForm : Type 0
OneForm =
    (t t' : List ℕ) (rev rev' : ℕ) (s s' : Sizes) (q q' : Numbers)
    → accepted t ≡ asks rev s q → accepted t' ≡ asks rev' s' q'
    → (Equal rev rev' s s' q q' → form rev s q ≡ form rev' s' q')
    × (form rev s q ≡ form rev' s' q' → Equal rev rev' s s' q q')
