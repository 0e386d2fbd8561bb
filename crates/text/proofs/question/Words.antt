-- Laws of reading a word, and a line of a key and a small number: which part of it is there.
use mathlib.Core.Path.{◌≡◌, refl, sym, ap, ◌∙◌, subst}
use mathlib.Core.Bool.{Bool, true, false, cond, ◌&&◌}
use mathlib.Core.List.{List, [], ◌∷◌}
use Prim.Native.Nat.{ℕ, ◌+◌}
use native.Mathlib.Omega.{arith}
use lib.ListN.{length, take, drop}
use lib.Dec.{eqb}
use borrow.Author.Tests.{eq-eqb, ne_eqb}
use Rattle.std.specs.Borrow.{Bor}
use Rattle.std.specs.Prelude.{Option, Some, None, MatchOption}
use Rattle.std.specs.Cmp.Lexicographic.{pointwise}
use Rattle.text.specs.Bytes.{Read, bad, got, then, word}
use Rattle.text.specs.Numerals.{small}
use Rattle.text.specs.Question.{small_line}
use Rattle.text.specs.Cursor.{read_of, word_of, SmallRead}

-- ---- one after the other

module _ {A B : Type 0} where
  pub then-bad : (r : Read A) (f : A → List ℕ → Read B) → r ≡ bad → then r f ≡ bad
  unfolding then
  then-bad r f e = ap (λ (q : Read A). then q f) e

  pub then-got : (r : Read A) (f : A → List ℕ → Read B) (x : A) (t : List ℕ) → r ≡ got x t → then r f ≡ f x t
  unfolding then
  then-got r f x t e = ap (λ (q : Read A). then q f) e

-- ---- what was read, where the code gives a rest or none

module _ {A : Type 0} {spec : Read A} (r : Option (A × Bor (List ℕ))) (h : read_of r ≡ spec) where
  pub nothing_read : r ≡ None → spec ≡ bad
  nothing_read e = sym h ∙ ap read_of e

  pub was_read : (x : A) (t : Bor (List ℕ)) → r ≡ Some (x, t) → spec ≡ got x t.now
  was_read x t e = sym h ∙ ap read_of e

module _ {spec : Read (Unit {0})} (r : Option (Bor (List ℕ))) (h : word_of r ≡ spec) where
  pub no_word : r ≡ None → spec ≡ bad
  no_word e = sym h ∙ ap word_of e

  pub was_word : (t : Bor (List ℕ)) → r ≡ Some t → spec ≡ got tt t.now
  was_word t e = sym h ∙ ap word_of e

-- ---- words

-- a word, by whether the text begins with it
word_is : (w t : List ℕ) → word w t ≡ cond (pointwise eqb (take (length w) t) w) (got tt (drop (length w) t)) bad
unfolding word
word_is [] t = refl
word_is (b ∷ w) [] = refl
word_is (b ∷ w) (c ∷ t) = by (eqb c b) (word_is w t)
  where
    by : (s : Bool) → word w t ≡ cond (pointwise eqb (take (length w) t) w) (got tt (drop (length w) t)) bad
        → cond s (word w t) bad
        ≡ cond (s && pointwise eqb (take (length w) t) w) (got tt (drop (length w) t)) bad
    by true h = h
    by false h = refl

-- the code takes it off
pub word_stripped : (w t : List ℕ) (r : Option (Bor (List ℕ)))
    → MatchOption r (pointwise eqb (take (length w) t) w ≡ false)
    (λ x. (pointwise eqb (take (length w) t) w ≡ true)
    × (x.now ≡ drop (length w) t)
    × (length x.now + length w ≡ length t))
    → word_of r ≡ word w t
word_stripped w t None h = sym (word_is w t ∙ ap (λ (s : Bool). cond s (got tt (drop (length w) t)) bad) h)
word_stripped w t (Some x) h =
    ap (got tt) h.1 ∙ sym (word_is w t ∙ ap (λ (s : Bool). cond s (got tt (drop (length w) t)) bad) h.0)

-- one byte
pub byte_none : (t : List ℕ) (b : ℕ) → length t ≡ 0 → word (b ∷ []) t ≡ bad
unfolding word
byte_none [] b h = refl
byte_none (c ∷ t) b h = absurd (omega arith)

pub byte-off : (t left : List ℕ) (b c : ℕ) → t ≡ c ∷ left → (c ≡ b → ⊥) → word (b ∷ []) t ≡ bad
unfolding word
byte-off t left b c e h = rw (e, ne_eqb c b h)

pub byte_there : (t left : List ℕ) (b c : ℕ) → t ≡ c ∷ left → c ≡ b → word (b ∷ []) t ≡ got tt left
unfolding word
byte_there t left b c e h = rw (e, eq-eqb c b h)

-- ---- a line of a key and a small number

module _ (key t : List ℕ) (r : Option (Bor (List ℕ))) (w : word_of r ≡ word key t) where
  -- the key is missing
  pub small-line_keyless : r ≡ None → small_line key t ≡ bad
  unfolding small_line
  small-line_keyless e = then-bad (word key t) _ (no_word r w e)

  module _ (a : Bor (List ℕ)) (e : r ≡ Some a) (s : Option (ℕ × Bor (List ℕ))) (n : SmallRead (small a.now) s) where
    behind-key : small_line key t ≡ then (small a.now) (λ n b. then (word (10 ∷ []) b) (λ _ rest. got n rest))
    unfolding small_line
    behind-key = then-got (word key t) _ tt a.now (was_word r w a e)

    -- no number follows
    pub small-line_none : s ≡ None → small_line key t ≡ bad
    small-line_none f = behind-key ∙ then-bad (small a.now) _ (subst (SmallRead _) f n)

    module _ (x : ℕ) (b : Bor (List ℕ)) (f : s ≡ Some (x, b)) (q : Option (Bor (List ℕ)))
        (v : word_of q ≡ word (10 ∷ []) b.now) where
      behind_number : small_line key t ≡ then (word (10 ∷ []) b.now) (λ _ rest. got x rest)
      behind_number = behind-key ∙ then-got (small a.now) _ x b.now (subst (SmallRead _) f n).1

      -- the line does not end
      pub small-line-endless : q ≡ None → small_line key t ≡ bad
      small-line-endless g = behind_number ∙ then-bad (word (10 ∷ []) b.now) _ (no_word q v g)

      -- the whole line is there
      pub small-line-whole : (c : Bor (List ℕ)) → q ≡ Some c → SmallRead (small_line key t) (Some (x, c))
      small-line-whole c g = (
        (subst (SmallRead _) f n).0,
        behind_number ∙ then-got (word (10 ∷ []) b.now) _ tt c.now (was_word q v c g),
      )
