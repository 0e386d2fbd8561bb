-- What is written to a text: words one behind the other, the digits of a number from the last on,
-- and how many digits there are.
use mathlib.Core.Path.{◌≡◌, refl, sym, ap, ◌∙◌, subst}
use mathlib.Core.Logic.{◌⊎◌, ⊎_elim}
use mathlib.Core.Option.{Option, none}
use mathlib.Core.List.{List, [], ◌∷◌, ◌++◌, append-nil, append_assoc}
use Prim.Native.Nat.{ℕ, zero, suc, ◌+◌, ◌-◌, ◌/◌, ◌%◌, ◌≤◌, ◌<◌}
use native.Mathlib.Nat.{add-zero, add-suc, not-suc-le-zero}
use native.Mathlib.Numerals.{add-one, sub-one}
use native.Mathlib.Omega.{arith}
use lib.ListN.{length, take, drop, set, length-append}
use lib.Seq.{take_at}
use lib.Ieee.{Float, binary64, to_bits}
use borrow.Author.Tests.{le-leb, lt-leb}
use Rattle.lists.specs.Lists.{put}
use Rattle.lists.proofs.Put.{put-nil, put-put, put-cons}
use Rattle.model.specs.Paper.{Paper, paper}
use Rattle.model.specs.declared.subdivide.Counts.{Counts}
use Rattle.model.specs.declared.contains.Found.{Found}
use Rattle.model.specs.declared.contains.Found.TheVariants.{Nothing, Enclosed, Spent, Refused}
use Rattle.model.specs.contracts.contains.Found.{the_type}
use denote.Enum.Declared.{tag_of}
use Rattle.math.specs.declared.scalars.Scalar.{Scalar}
use Rattle.text.specs.Bytes.{bytes}
use Rattle.text.specs.Respond.{result_word, count_lines, bound_lines, counted, printed}
use Rattle.text.specs.Numerals.{digit_of, last_digits, decimal_length, decimal, hexadecimal}
use Rattle.text.specs.Printable.{Written, numbered_paper}

-- ---- words

-- Two words, one behind the other.
pub joined : {l m k : List ℕ} {a b c : ℕ} {xs ys : List ℕ} → b ≤ length l → Written l a xs m b → Written m b ys k c
    → Written l a (xs ++ ys) k c
joined {l} {m} {k} {a} {b} {c} {xs} {ys} h w v = record {
  memory =
      v.memory
      ∙ (λ i. put (w.memory i) (w.end i) ys)
      ∙ put-put l a xs ys (omega (arith, w.end));
  end = simp length-append (omega (arith, w.end, v.end));
}

-- Bytes that were written to the front are what stands there.
pub front : (l w : List ℕ) → take (length w) (put l 0 w) ≡ w
unfolding put
front l w = take_at w (drop (0 + length w) l) (length w) refl

pub written-front : {l w m : List ℕ} {r : ℕ} → Written l 0 w m r → take r m ≡ w
written-front {l} {w} v =
    let z : 0 + length w ≡ length w = omega arith in
    (λ i. take ((v.end ∙ z) i) (v.memory i)) ∙ front l w

-- ---- digits

pub digit_low : (n : ℕ) → n ≤ 9 → 48 + n ≡ digit_of n
digit_low n h = rw (le-leb n 9 h)

pub digit_high : (n : ℕ) → 9 < n → 87 + n ≡ digit_of n
digit_high n h = rw (lt-leb n 9 h)

pub length_digits : (b k n : ℕ) → length (last_digits b k n) ≡ k
unfolding last_digits
length_digits b zero n = refl
length_digits b (suc k) n = simp (length-append, length_digits b k (n / b), add-one)

-- The digits from place i on were written to l from `at` on, which became m;
-- those in front of them are the last i of `rest`.
abbrev pub Digits : List ℕ → ℕ → ℕ → ℕ → ℕ → List ℕ → ℕ → ℕ → Type 0
Digits l at b k n m i rest =
    (ws : List ℕ)
    × (i + length ws ≡ k)
    × (last_digits b i rest ++ ws ≡ last_digits b k n)
    × (m ≡ put l (at + i) ws)

pub digits_none : (l : List ℕ) (at b k n : ℕ) → Digits l at b k n l k n
digits_none l at b k n = ([], omega arith, append-nil (last_digits b k n), sym (put-nil l (at + k)))

digits_step : (l : List ℕ) (at b k n : ℕ) (m : List ℕ) (i rest : ℕ) → at + k ≤ length l
    → Digits l at b k n m (suc i) rest → Digits l at b k n (set m (at + i) (digit_of (rest % b))) i (rest / b)
unfolding last_digits
digits_step l at b k n m i rest h (ws, p, q, r) =
    let d : ℕ = digit_of (rest % b) in
    let before : m ≡ put l (suc (at + i)) ws = r ∙ ap (λ (x : ℕ). put l x ws) (add-suc at i) in (
      d ∷ ws,
      omega arith,
      sym (append_assoc (last_digits b i (rest / b)) (d ∷ []) ws) ∙ q,
      ap (λ (x : List ℕ). set x (at + i) d) before ∙ put-cons l (at + i) ws d (omega arith),
    )

-- one turn
pub digits_turn : (l : List ℕ) (at b k n : ℕ) (m : List ℕ) (i rest d : ℕ) → at + k ≤ length l → 0 < i
    → d ≡ digit_of (rest % b) → Digits l at b k n m i rest
    → Digits l at b k n (set m (at + (i - 1)) d) (i - 1) (rest / b)
digits_turn l at b k n m zero rest d h g e w = absurd (not-suc-le-zero g)
digits_turn l at b k n m (suc i) rest d h g e w = rw (sub-one (suc i), e) (digits_step l at b k n m i rest h w)

-- after the last turn
pub digits_done : (l : List ℕ) (at b k n : ℕ) (m : List ℕ) (i rest : ℕ) → i ≤ 0 → Digits l at b k n m i rest
    → Written l at (last_digits b k n) m (at + k)
unfolding last_digits
digits_done l at b k n m zero rest h (ws, p, q, r) = record {
  memory = r ∙ ap (λ (x : ℕ). put l x ws) (add-zero at) ∙ ap (put l at) q;
  end = ap (λ (x : ℕ). at + x) (sym (length_digits b k n));
}
digits_done l at b k n m (suc i) rest h w = absurd (not-suc-le-zero h)

-- ---- how many digits

-- a digit more, and those of the rest
pub length_more : (k n : ℕ) → 9 < n → decimal_length (suc k) n ≡ suc (decimal_length k (n / 10))
unfolding decimal_length
length_more k n h = rw (lt-leb n 9 h)

pub length_last : (k n : ℕ) → n ≤ 9 → decimal_length k n ≡ 1
unfolding decimal_length
length_last zero n h = refl
length_last (suc k) n h = rw (le-leb n 9 h)

-- one turn
pub length_turn : (l rest t : ℕ) → l < 20 → 9 < rest → l + decimal_length (20 - l) rest ≡ t
    → l + 1 + decimal_length (20 - (l + 1)) (rest / 10) ≡ t
length_turn l rest t h g e =
    let s : 20 - l ≡ suc (20 - (l + 1)) = omega arith in
    let q : decimal_length (20 - l) rest ≡ suc (decimal_length (20 - (l + 1)) (rest / 10)) =
    rw s (length_more (20 - (l + 1)) rest g) in
    omega arith

-- the rest is the first digit
pub length_one : (l rest t : ℕ) → rest ≤ 9 → l + decimal_length (20 - l) rest ≡ t + 1 → l ≡ t
length_one l rest t g e = omega (arith, length_last (20 - l) rest g)

-- there are twenty
pub length-full : (l rest t : ℕ) → 20 ≤ l → l + decimal_length (20 - l) rest ≡ t + 1 → l ≡ t
length-full l rest t h e =
    let s : 20 - l ≡ 0 = omega arith in
    let q : decimal_length (20 - l) rest ≡ 1 = rw s (none rest) in
    omega arith
  where
    none : (n : ℕ) → decimal_length 0 n ≡ 1
    none n = unfold decimal_length in refl

-- ---- numbers

-- The digits that were written are those of n in decimal.
pub decimal-written : (l : List ℕ) (at k n : ℕ) (m : List ℕ) (r : ℕ) → k ≡ decimal_length 19 n → k ≤ 20
    → Written l at (last_digits 10 k n) m r → Written l at (decimal n) m r × (r ≤ at + 20)
unfolding decimal
decimal-written l at k n m r e h w =
    (subst (λ (x : ℕ). Written l at (last_digits 10 x n) m r) e w, omega (arith, w.end, length_digits 10 k n))

-- The digits that were written are those of x.
pub double-written : (l : List ℕ) (at : ℕ) (x : Float) (m : List ℕ) (r : ℕ)
    → Written l at (last_digits 16 16 (to_bits binary64 x)) m r → Written l at (hexadecimal x) m r × (r ≡ at + 16)
unfolding hexadecimal
double-written l at x m r w = (w, omega (arith, w.end, length_digits 16 16 (to_bits binary64 x)))

-- ---- lines

-- What was written for an answer g was written for f, where they are the same.
pub written_as : (of : Found → List ℕ) {f g : Found} {l m : List ℕ} {at r n : ℕ} → f ≡ g → Written l at (of g) m r
    → r ≤ n → Written l at (of f) m r × (r ≤ n)
written_as of {l = l} {m = m} {at = at} {r = r} e w h = (subst (λ (x : Found). Written l at (of x) m r) (sym e) w, h)

-- an answer that is not Enclosed has no bounds
unbounded : (f : Found) → (tag_of the_type f ≡ 0) ⊎ ((tag_of the_type f ≡ 2) ⊎ (tag_of the_type f ≡ 3))
    → (paper f).bounds ≡ none
unbounded (Nothing v) h = refl
unbounded (Enclosed lo hi v) h = absurd (other 1 (omega arith) (omega arith) h)
  where
    other : (k : ℕ) → 0 < k → k < 2 → (k ≡ 0) ⊎ ((k ≡ 2) ⊎ (k ≡ 3)) → ⊥
    other k a b h =
        ⊎_elim (λ (e : k ≡ 0). omega arith)
        (λ (g : (k ≡ 2) ⊎ (k ≡ 3)). ⊎_elim (λ (e : k ≡ 2). omega arith) (λ (e : k ≡ 3). omega arith) g) h
unbounded (Spent n v) h = refl
unbounded (Refused e v) h = refl

-- their lines
pub dashes_written : (f : Found) {l m : List ℕ} {at r : ℕ}
    → (tag_of the_type f ≡ 0) ⊎ ((tag_of the_type f ≡ 2) ⊎ (tag_of the_type f ≡ 3))
    → Written l at (bytes "lo=-\nhi=-\n") m r
    → r ≤ at + 40 → Written l at (bound_lines (paper f).bounds) m r × (r ≤ at + 40)
unfolding bound_lines
dashes_written f {l} {m} {at} {r} k w h =
    (subst (λ (x : Option Scalar). Written l at (bound_lines x) m r) (sym (unbounded f k)) w, h)

-- Four words, one behind the other.
pub four-joined : {l m₁ m₂ m₃ m₄ : List ℕ} {at p q r s : ℕ} {a b c d : List ℕ} → s ≤ length l
    → Written l at a m₁ p → Written m₁ p b m₂ q → Written m₂ q c m₃ r → Written m₃ r d m₄ s
    → Written l at (a ++ b ++ c ++ d) m₄ s
four-joined h u v w x = joined (omega arith) (joined (omega arith) (joined (omega arith) u v) w) x

-- Five.
pub five-joined : {l m₁ m₂ m₃ m₄ m₅ : List ℕ} {at p q r s t : ℕ} {a b c d e : List ℕ} → t ≤ length l
    → Written l at a m₁ p → Written m₁ p b m₂ q → Written m₂ q c m₃ r → Written m₃ r d m₄ s → Written m₄ s e m₅ t
    → Written l at (a ++ b ++ c ++ d ++ e) m₅ t
five-joined h u v w x y = joined (omega arith) (four-joined (omega arith) u v w x) y

-- The lines of the counts: the four counts behind their keys, and the end of the last line.
pub counts-written : (a : Paper) (v k d n : ℕ) {l m₁ m₂ m₃ m₄ m₅ : List ℕ} {at p q r s t : ℕ}
    → v ≡ a.visited → k ≡ a.cuts → d ≡ a.depth → n ≡ a.pending → t ≤ length l
    → Written l at (bytes "\nvisited=" ++ decimal v) m₁ p → Written m₁ p (bytes "\ncuts=" ++ decimal k) m₂ q
    → Written m₂ q (bytes "\ndepth=" ++ decimal d) m₃ r → Written m₃ r (bytes "\npending=" ++ decimal n) m₄ s
    → Written m₄ s (bytes "\n") m₅ t → Written l at (count_lines a) m₅ t
unfolding count_lines
counts-written p v k d n {l} {m₅ = m₅} {at = at} {t = t} a b c e h u w x y z =
    subst (λ (ws : List ℕ). Written l at ws m₅ t)
    (λ i.
    (bytes "\nvisited=" ++ decimal (a i)) ++ (bytes "\ncuts=" ++ decimal (b i)) ++ (bytes "\ndepth=" ++ decimal (c i))
    ++ (bytes "\npending=" ++ decimal (e i)) ++ bytes "\n")
    (five-joined h u w x y z)

-- The seven lines: the word of the result behind its key, the lines of the counts, and those of the bounds.
pub printed-written : (f : Found) {l m₁ m₂ m₃ m₄ : List ℕ} {p q r s : ℕ} → s ≤ length l
    → Written l 0 (bytes "result=") m₁ p → Written m₁ p (result_word (paper f).result) m₂ q
    → Written m₂ q (count_lines (paper f)) m₃ r → Written m₃ r (bound_lines (paper f).bounds) m₄ s
    → Written l 0 (printed (paper f)) m₄ s
unfolding printed
printed-written f h u w x y = four-joined h u w x y

-- The lines of the counts of an answer are those of its counts.
pub counts-of : (a : Paper) (v : Counts) (n : ℕ) {l m : List ℕ} {at t : ℕ}
    → v ≡ record { visited = a.visited; cuts = a.cuts; depth = a.depth } → n ≡ a.pending
    → Written l at (count_lines (counted v n)) m t → Written l at (count_lines a) m t
unfolding count_lines
counts-of a v n {l} {m} {at} {t} e f w =
    subst (λ (ws : List ℕ). Written l at ws m t)
    (λ i. count_lines (counted (e i) (f i))) w

-- The seven lines of a refusal by a number.
pub refused-written : (n : ℕ) (v : Counts) {l m₁ m₂ m₃ m₄ m₅ : List ℕ} {p q r s t : ℕ} → t ≤ length l
    → Written l 0 (bytes "result=") m₁ p → Written m₁ p (bytes "refused-") m₂ q → Written m₂ q (decimal n) m₃ r
    → Written m₃ r (count_lines (counted v 0)) m₄ s → Written m₄ s (bytes "lo=-\nhi=-\n") m₅ t
    → Written l 0 (printed (numbered_paper n v)) m₅ t
unfolding printed result_word count_lines bound_lines
refused-written n v {l} {m₅ = m₅} {t = t} h u w x y z =
    subst (λ (ws : List ℕ). Written l 0 (ws ++ count_lines (counted v 0) ++ bytes "lo=-\nhi=-\n") m₅ t)
    (append_assoc (bytes "result=") (bytes "refused-") (decimal n)) (five-joined h u w x y z)
