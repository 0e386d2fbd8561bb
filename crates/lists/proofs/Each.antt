-- Element i of a list that is made from another: mapped, zipped or turned round.
use mathlib.Core.Path.{◌≡◌, refl, sym, ap, ◌∙◌, subst}
use mathlib.Core.List.{List, [], ◌∷◌, ◌++◌, map, reverse, reverse-cons, zip_with}
use Prim.Native.Nat.{ℕ, zero, suc, ◌-◌, ◌≤◌, ◌<◌}
use native.Mathlib.Nat.{lt_of_not-le}
use native.Mathlib.Decide.{dec_le}
use native.Mathlib.Omega.{arith}
use lib.ListN.{length, get_or, get_or-append, length-reverse}
use lib.Seq.{get_or_at}

pub get_or_map : {A B : Type 0} (f : A → B) (l : List A) (i : ℕ) (d : A) (e : B) → i < length l → get_or (map f l) i e ≡ f (get_or l i d)
get_or_map f [] i d e h = absurd (omega arith)
get_or_map f (x ∷ l) zero d e h = refl
get_or_map f (x ∷ l) (suc i) d e h = get_or_map f l i d e (omega arith)

pub length-zip : {A B C : Type 0} (g : A → B → C) (a : List A) (b : List B) → length b ≤ length a → length (zip_with g a b) ≡ length b
unfolding zip_with
length-zip g [] [] h = refl
length-zip g [] (y ∷ b) h = absurd (omega arith)
length-zip g (x ∷ a) [] h = refl
length-zip g (x ∷ a) (y ∷ b) h = ap suc (length-zip g a b (omega arith))

pub get_or_zip : {A B C : Type 0} (g : A → B → C) (a : List A) (b : List B) (k : ℕ) (d : A) (e : B) (f : C) → k < length a → k < length b → get_or (zip_with g a b) k f ≡ g (get_or a k d) (get_or b k e)
unfolding zip_with
get_or_zip g [] b k d e f h l = absurd (omega arith)
get_or_zip g (x ∷ a) [] k d e f h l = absurd (omega arith)
get_or_zip g (x ∷ a) (y ∷ b) zero d e f h l = refl
get_or_zip g (x ∷ a) (y ∷ b) (suc k) d e f h l = get_or_zip g a b k d e f (omega arith) (omega arith)

pub get_or_reverse : {A : Type 0} (l : List A) (i : ℕ) (d : A) → i < length l → get_or (reverse l) i d ≡ get_or l (length l - suc i) d
get_or_reverse [] i d h = absurd (omega arith)
get_or_reverse {A} (x ∷ l) i d h = ap (λ (k : List A). get_or k i d) (reverse-cons x l) ∙ go (dec_le (suc i) (length l)) (get_or_reverse l i d)
  where
    go : Dec (i < length l) → (i < length l → get_or (reverse l) i d ≡ get_or l (length l - suc i) d) → get_or (reverse l ++ (x ∷ [])) i d ≡ get_or (x ∷ l) (suc (length l) - suc i) d
    go (yes m) r = get_or-append (reverse l) (x ∷ []) d i (subst (λ (k : ℕ). i < k) (sym (length-reverse l)) m) ∙ r m ∙ ap (λ (k : ℕ). get_or (x ∷ l) k d) ix
      where
        ix : suc (length l - suc i) ≡ suc (length l) - suc i
        ix = omega arith
    go (no m) r = get_or_at (reverse l) x [] d i (length-reverse l ∙ ix₁ (lt_of_not-le m)) ∙ ap (λ (k : ℕ). get_or (x ∷ l) k d) (ix₂ (lt_of_not-le m))
      where
        ix₁ : length l < suc i → length l ≡ i
        ix₁ o = omega arith

        ix₂ : length l < suc i → zero ≡ suc (length l) - suc i
        ix₂ o = omega arith
