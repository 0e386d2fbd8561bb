-- Laws of the line of the revision, and of the three lines behind it: which of them are there.
use mathlib.Core.Path.{◌≡◌, refl, sym, ap, subst, ◌∙◌}
use mathlib.Core.List.{List}
use Prim.Native.Nat.{ℕ}
use native.Mathlib.Omega.{arith}
use mathlib.Core.Bool.{true, false, true≢false}
use Rattle.std.specs.Borrow.{Bor}
use Rattle.std.specs.Prelude.{Option, Some, None, is_some}
use Rattle.text.specs.Bytes.{bytes, Read, bad, got, then, word}
use Rattle.text.specs.Question.{small_line, revision_by, revision, sizes_of, sizes}
use Rattle.text.specs.Cursor.{word_of, SmallRead}
use Rattle.text.proofs.question.Words.{then-bad, then-got, no_word, was_word}

-- ---- the line of the revision

module _ (text : Bor (List ℕ)) (p : Option (Bor (List ℕ))) (key : word_of p ≡ word (bytes "rev=") text.now) where
  -- there is none: the revision is 1, and nothing is read
  pub revision_none : is_some p ≡ false → SmallRead (revision text.now) (Some (1, text))
  unfolding revision revision_by
  revision_none e = (omega arith, ap (revision_by text.now) (no_word p key (none p e)))
    where
      none : (q : Option (Bor (List ℕ))) → is_some q ≡ false → q ≡ None
      none None f = refl
      none (Some t) f = absurd (true≢false f)

  -- the text begins with its key: it is read as any other
  pub revision-read : is_some p ≡ true → (r : Option (ℕ × Bor (List ℕ)))
      → SmallRead (small_line (bytes "rev=") text.now) r → SmallRead (revision text.now) r
  unfolding revision revision_by
  revision-read e r h = subst (λ (x : Read ℕ). SmallRead x r) (sym (by p key e)) h
    where
      by : (q : Option (Bor (List ℕ))) → word_of q ≡ word (bytes "rev=") text.now → is_some q ≡ true
          → revision_by text.now (word (bytes "rev=") text.now) ≡ small_line (bytes "rev=") text.now
      by None k f = absurd (true≢false (sym f))
      by (Some t) k f = ap (revision_by text.now) (was_word (Some t) k t refl)

-- ---- the three lines of the sizes: none of them is there, or the first, or two, or all three

module _ (t : List ℕ) (r : Option (ℕ × Bor (List ℕ))) (one : SmallRead (small_line (bytes "dim=") t) r) where
  pub sizes_none : r ≡ None → sizes t ≡ bad
  unfolding sizes
  sizes_none e = then-bad (small_line (bytes "dim=") t) _ (subst (SmallRead _) e one)

  module _ (d : ℕ) (a : Bor (List ℕ)) (e : r ≡ Some (d, a)) (q : Option (ℕ × Bor (List ℕ)))
      (two : SmallRead (small_line (bytes "degree=") a.now) q) where
    sizes-next : sizes t
        ≡ then (small_line (bytes "degree=") a.now) (λ degree b.
        then (small_line (bytes "count=") b) (λ count rest.
        got (sizes_of d degree count) rest))
    unfolding sizes
    sizes-next = then-got (small_line (bytes "dim=") t) _ d a.now (subst (SmallRead _) e one).1

    pub sizes_one : q ≡ None → sizes t ≡ bad
    sizes_one f = sizes-next ∙ then-bad (small_line (bytes "degree=") a.now) _ (subst (SmallRead _) f two)

    module _ (p : ℕ) (b : Bor (List ℕ)) (f : q ≡ Some (p, b)) (z : Option (ℕ × Bor (List ℕ)))
        (three : SmallRead (small_line (bytes "count=") b.now) z) where
      sizes_last : sizes t
          ≡ then (small_line (bytes "count=") b.now) (λ count rest.
          got (sizes_of d p count) rest)
      sizes_last =
          sizes-next ∙ then-got (small_line (bytes "degree=") a.now) _ p b.now (subst (SmallRead _) f two).1

      pub sizes_two : z ≡ None → sizes t ≡ bad
      sizes_two g = sizes_last ∙ then-bad (small_line (bytes "count=") b.now) _ (subst (SmallRead _) g three)

      pub sizes-three : (n : ℕ) (c : Bor (List ℕ)) → z ≡ Some (n, c) → sizes t ≡ got (sizes_of d p n) c.now
      sizes-three n c g =
          sizes_last ∙ then-got (small_line (bytes "count=") b.now) _ n c.now (subst (SmallRead _) g three).1
