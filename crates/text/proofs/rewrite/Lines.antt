-- Lines of doubles, as they are written: one value behind the other, one line behind the other. Assumes nothing.
use mathlib.Core.Path.{◌≡◌, refl, sym, ap, ◌∙◌, subst}
use mathlib.Core.Bool.{Bool, true, ◌&&◌}
use mathlib.Core.List.{List, [], ◌∷◌, ◌++◌, append-nil, append_assoc}
use Prim.Native.Nat.{ℕ, suc, ◌+◌, ◌-◌, ◌*◌, ◌≤◌, ◌<◌}
use native.Mathlib.Nat.{mul-suc, mul-zero, mul-le-mul_left}
use native.Mathlib.Numerals.{add-one}
use native.Mathlib.Omega.{arith}
use lib.ListN.{length, take, drop, get_or, set, length-append, length-drop, take-append-drop, drop_of_length-le}
use lib.Seq.{drop-cons, drop-drop}
use lib.Ieee.{Float, nan}
use Rattle.model.specs.Subdivide.{positive_zero}
use Rattle.lists.specs.Lists.{part, put, all}
use Rattle.lists.proofs.Put.{put-nil, put-put, put_one}
use Rattle.text.specs.Numerals.{hexadecimal}
use Rattle.text.specs.Question.{behind}
use Rattle.text.specs.Printable.{Written}
use Rattle.text.specs.Form.{values_text, line_text, lines_text}
use Rattle.text.proofs.numerals.Decimal.{both}

-- ---- a text that is written piece by piece

-- Of the text `whole`, all but `rest` was written to l from `at` on, in k bytes, which became m.
pub record Progress (l : List ℕ) (at : ℕ) (whole rest : List ℕ) (k : ℕ) (m : List ℕ) : Type 0 where
  pub done : List ℕ
  pub long : length done ≡ k
  pub told : done ++ rest ≡ whole
  pub wrote : m ≡ put l at done

-- nothing was written yet
pub progress_none : {whole rest : List ℕ} (l : List ℕ) (at : ℕ) → rest ≡ whole → Progress l at whole rest 0 l
progress_none l at e = record { done = []; long = refl; told = e; wrote = sym (put-nil l at) }

module _ {l : List ℕ} {at : ℕ} {whole rest : List ℕ} {k : ℕ} {m : List ℕ} (p : Progress l at whole rest k m) where
  -- one piece more
  pub progress_more : {m' rest' : List ℕ} {r : ℕ} (ys : List ℕ) (k' : ℕ) → rest ≡ ys ++ rest' → at + k ≤ length l
      → k + length ys ≡ k' → Written m (at + k) ys m' r → Progress l at whole rest' k' m'
  progress_more {m'} {rest'} ys k' e h f w =
      let q : at + k ≡ at + length p.done = omega (arith, p.long) in
      record {
        done = p.done ++ ys;
        long = length-append p.done ys ∙ ap (λ (n : ℕ). n + length ys) p.long ∙ f;
        told = append_assoc p.done ys rest' ∙ ap (λ (x : List ℕ). p.done ++ x) (sym e) ∙ p.told;
        wrote =
            w.memory
            ∙ (λ a. put (p.wrote a) (q a) ys)
            ∙ put-put l at p.done ys (omega (arith, p.long));
      }

  -- nothing is left
  pub progress_all : (r : ℕ) → rest ≡ [] → r ≡ at + k → Written l at whole m r
  progress_all r e f =
      let w : p.done ≡ whole = sym (append-nil p.done) ∙ ap (λ (x : List ℕ). p.done ++ x) (sym e) ∙ p.told in
      record {
        memory = p.wrote ∙ ap (put l at) w;
        end = f ∙ ap (λ (n : ℕ). at + n) (sym p.long ∙ ap length w);
      }

-- one byte is a piece
pub byte-written : (m : List ℕ) (at b : ℕ) → at < length m → Written m at (b ∷ []) (set m at b) (at + 1)
byte-written m at b h = record { memory = put_one m at b h; end = refl }

-- ---- parts of a list that pass a test

module _ {A : Type 0} (p : A → Bool) where
  -- of two lists, each
  all_append : (xs ys : List A) → all p (xs ++ ys) ≡ true → (all p xs ≡ true) × (all p ys ≡ true)
  unfolding all
  all_append [] ys e = (refl, e)
  all_append (x ∷ xs) ys e =
      let h = both (p x) (all p (xs ++ ys)) e in
      let t = all_append xs ys h.1 in
      ((λ i. h.0 i && t.0 i), t.1)

  -- of a list, what stands in front and what stands behind
  pub all_parts : (n : ℕ) (l : List A) → all p l ≡ true → (all p (take n l) ≡ true) × (all p (drop n l) ≡ true)
  all_parts n l e = all_append (take n l) (drop n l) (ap (all p) (take-append-drop n l) ∙ e)

  -- of a part of it
  pub all_part : (l : List A) (a w : ℕ) → all p l ≡ true → all p (part l a w) ≡ true
  all_part l a w e = (all_parts w (drop a l) (all_parts a l e).1).0

-- ---- doubles

-- The first i of these doubles were written to l from `at` on, which became m.
abbrev pub Values : List Float → List ℕ → ℕ → ℕ → List ℕ → Type 0
Values xs l at i m = Progress l at (values_text xs) (values_text (drop i xs)) (17 * i) m

module _ (xs : List Float) where
  values_first : (i : ℕ) → i < length xs
      → values_text (drop i xs) ≡ hexadecimal (positive_zero (get_or xs i nan)) ++ (behind (length xs - i - 1) ∷ values_text (drop (i + 1) xs))
  unfolding values_text
  values_first i g =
      let t : suc i ≡ i + 1 = omega arith in
      let w : length (drop (suc i) xs) ≡ length xs - i - 1 = simp (length-drop) (omega arith) in
      ap values_text (drop-cons xs i nan g)
      ∙ (λ j. hexadecimal (positive_zero (get_or xs i nan)) ++ (behind (w j) ∷ values_text (drop (t j) xs)))

  module _ (l : List ℕ) (at : ℕ) where
    -- before the first
    pub values_none : Values xs l at 0 l
    values_none = progress_none l at refl

    -- one more, and what stands behind it
    pub values-more : (i : ℕ) (m m' : List ℕ) (r b : ℕ) → i < length xs → at + 17 * length xs ≤ length l → Values xs l at i m
        → length m ≡ length l → length m' ≡ length l → r ≡ at + 17 * i + 16 → b ≡ behind (length xs - i - 1)
        → Written m (at + 17 * i) (hexadecimal (positive_zero (get_or xs i nan))) m' r
        → Values xs l at (i + 1) (set m' r b)
    values-more i m m' r b g room p M M' R B w =
        let s : r ≡ at + (17 * i + 16) = omega (arith, R) in
        let sixteen : length (hexadecimal (positive_zero (get_or xs i nan))) ≡ 16 = omega (arith, R, w.end) in
        let one = progress_more p _ (17 * i + 16) (values_first i g) (omega arith) (ap (λ (k : ℕ). 17 * i + k) sixteen) w in
        let rest : List ℕ = values_text (drop (i + 1) xs) in
        let c : b ∷ rest ≡ behind (length xs - i - 1) ∷ rest = ap (λ (k : ℕ). k ∷ rest) B in
        progress_more one (b ∷ []) (17 * (i + 1)) (sym c) (omega arith) (omega arith)
        (subst (λ (k : ℕ). Written m' k (b ∷ []) (set m' r b) (r + 1)) s (byte-written m' r b (omega (arith, R, M'))))

    -- behind the last
    pub values_all : (i : ℕ) (m : List ℕ) → length xs ≤ i → i ≤ length xs → Values xs l at i m
        → Written l at (values_text xs) m (at + 17 * length xs)
    unfolding values_text
    values_all i m g k p = progress_all p _ (ap values_text (drop_of_length-le xs {i = i} g)) (omega arith)

-- ---- lines

-- Of k lines of n doubles each, the first i were written to l from `at` on, in w bytes each, which became m.
abbrev pub Lines : List ℕ → List Float → ℕ → ℕ → List ℕ → ℕ → ℕ → ℕ → List ℕ → Type 0
Lines key xs n k l at w i m =
    Progress l at (lines_text key n k xs) (lines_text key n (k - i) (drop (n * i) xs)) (w * i) m

module _ (key : List ℕ) (xs : List Float) (n k : ℕ) where
  lines_first : (i : ℕ) → i < k
      → lines_text key n (k - i) (drop (n * i) xs) ≡ line_text key (part xs (n * i) n) ++ lines_text key n (k - (i + 1)) (drop (n * (i + 1)) xs)
  unfolding lines_text
  lines_first i g =
      let s : k - i ≡ suc (k - (i + 1)) = omega arith in
      let f : n * i + n ≡ n * (i + 1) = omega (arith, mul-suc n i, ap (λ (x : ℕ). n * x) (add-one i)) in
      let d : drop n (drop (n * i) xs) ≡ drop (n * (i + 1)) xs = drop-drop n (n * i) xs ∙ ap (λ (x : ℕ). drop x xs) f in
      ap (λ (x : ℕ). lines_text key n x (drop (n * i) xs)) s
      ∙ ap (λ (r : List Float). line_text key (part xs (n * i) n) ++ lines_text key n (k - (i + 1)) r) d

  module _ (l : List ℕ) (at w : ℕ) where
    -- before the first
    pub lines_none : Lines key xs n k l at w 0 l
    lines_none =
        let y : k - 0 ≡ k = omega arith in
        let e : lines_text key n (k - 0) (drop (n * 0) xs) ≡ lines_text key n k xs =
        λ j. lines_text key n (y j) (drop (mul-zero n j) xs) in
        subst (λ (b : ℕ). Progress l at (lines_text key n k xs) (lines_text key n (k - 0) (drop (n * 0) xs)) b l) (sym (mul-zero w))
        (progress_none l at e)

    -- one more
    pub lines_more : (i p r : ℕ) (m m' : List ℕ) → i < k → at + w * k ≤ length l → p ≡ at + w * i → r ≡ p + w
        → Lines key xs n k l at w i m → Written m p (line_text key (part xs (n * i) n)) m' r → Lines key xs n k l at w (i + 1) m'
    lines_more i p r m m' g room P R q v =
        let f : w * i + w ≡ w * (i + 1) = omega (arith, mul-suc w i, ap (λ (x : ℕ). w * x) (add-one i)) in
        let o : w * (i + 1) ≤ w * k = mul-le-mul_left w (omega arith) in
        progress_more q (line_text key (part xs (n * i) n)) (w * (i + 1)) (lines_first i g) (omega (arith, f, o))
        (omega (arith, f, P, R, v.end))
        (subst (λ (x : ℕ). Written m x (line_text key (part xs (n * i) n)) m' r) P v)

    -- behind the last
    pub lines_all : (i p : ℕ) (m : List ℕ) → k ≤ i → i ≤ k → p ≡ at + w * i → Lines key xs n k l at w i m
        → Written l at (lines_text key n k xs) m p × (p ≡ at + w * k)
    unfolding lines_text
    lines_all i p m g e P q =
        let z : k - i ≡ 0 = omega arith in
        let y : i ≡ k = omega arith in
        (progress_all q p (ap (λ (x : ℕ). lines_text key n x (drop (n * i) xs)) z) P, P ∙ ap (λ (x : ℕ). at + w * x) y)
