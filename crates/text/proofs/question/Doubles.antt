-- Laws of reading doubles: one, a line of them, and several lines; one turn of each loop.
use mathlib.Core.Path.{◌≡◌, refl, sym, ap, ◌∙◌, subst}
use mathlib.Core.List.{List, [], ◌∷◌, ◌++◌, append_assoc, append-nil}
use Prim.Native.Nat.{ℕ, suc, ◌+◌, ◌-◌, ◌*◌, ◌≤◌, ◌<◌}
use native.Mathlib.Nat.{mul-zero, mul-suc, mul-le-mul_left}
use native.Mathlib.Numerals.{add-one}
use native.Mathlib.Omega.{arith}
use lib.ListN.{length, take, drop, set, length-append}
use lib.Seq.{drop-drop}
use borrow.Rule.Slice.PartMut.{put_mid}
use lib.Ieee.{Float}
use Rattle.lists.specs.Lists.{part, put}
use Rattle.lists.proofs.Part.{length_part}
use Rattle.lists.proofs.Put.{put-nil, put-put, put_one, put_whole, length-put}
use Rattle.std.specs.Borrow.{Bor}
use Rattle.std.specs.Prelude.{Option, Some, None}
use Rattle.text.specs.Bytes.{Read, bad, got, then, word}
use Rattle.text.specs.Numerals.{double}
use Rattle.text.specs.Question.{behind, values, line, lines}
use Rattle.text.specs.Cursor.{read_of, word_of, value, ValuesAt, ValuesRead}
use Rattle.text.proofs.question.Words.{then-bad, then-got, nothing_read, was_read, no_word, was_word}

-- ---- doubles

module _ (b : ℕ) (t : List ℕ) (r : Option (Float × Bor (List ℕ))) (d : read_of r ≡ double t) where
  -- there is no double
  pub value_none : r ≡ None → value b t ≡ bad
  unfolding value
  value_none e = then-bad (double t) _ (nothing_read r d e)

  -- there is one, and the byte b behind it or not
  module _ (x : Float) (a : Bor (List ℕ)) (e : r ≡ Some (x, a)) (q : Option (Bor (List ℕ)))
      (w : word_of q ≡ word (b ∷ []) a.now) where
    behind_double : value b t ≡ then (word (b ∷ []) a.now) (λ _ rest. got x rest)
    unfolding value
    behind_double = then-got (double t) _ x a.now (was_read r d x a e)

    pub value-endless : q ≡ None → value b t ≡ bad
    value-endless f = behind_double ∙ then-bad (word (b ∷ []) a.now) _ (no_word q w f)

    pub value_is : (c : Bor (List ℕ)) → q ≡ Some c → value b t ≡ got x c.now
    value_is c f = behind_double ∙ then-got (word (b ∷ []) a.now) _ tt c.now (was_word q w c f)

-- Some doubles, and what is read behind them.
pub prepend : List Float → Read (List Float) → Read (List Float)
prepend xs r = then r (λ ys rest. got (xs ++ ys) rest)

prepend_nil : (r : Read (List Float)) → r ≡ prepend [] r
unfolding prepend then
prepend_nil bad = refl
prepend_nil (got ys t) = refl

prepend_bad : (xs : List Float) → prepend xs bad ≡ bad
unfolding prepend then
prepend_bad xs = refl

prepend_end : (xs : List Float) (t : List ℕ) → prepend xs (got [] t) ≡ got xs t
unfolding prepend then
prepend_end xs t = rw (append-nil xs)

prepend_more : (xs ys : List Float) (r : Read (List Float)) → prepend xs (prepend ys r) ≡ prepend (xs ++ ys) r
unfolding prepend then
prepend_more xs ys bad = refl
prepend_more xs ys (got zs t) = rw (append_assoc xs ys zs)

-- Of what is read as `whole`, the first i doubles were written to the front of the memory l, which became m;
-- the others are read as `left`.
pub record Taken (whole left : Read (List Float)) (i : ℕ) (l m : List Float) : Type 0 where
  pub xs : List Float
  pub long : length xs ≡ i
  pub wrote : m ≡ put l 0 xs
  pub told : whole ≡ prepend xs left

-- nothing was taken yet
taken_none : {whole left : Read (List Float)} (l : List Float) → whole ≡ left → Taken whole left 0 l l
taken_none {left = left} l e =
    record { xs = []; long = refl; wrote = sym (put-nil l 0); told = e ∙ prepend_nil left }

module _ {whole left : Read (List Float)} {i : ℕ} {l m : List Float} (k : Taken whole left i l m) where
  -- what is left cannot be read
  taken-bad : left ≡ bad → whole ≡ bad
  taken-bad e = k.told ∙ ap (prepend k.xs) e ∙ prepend_bad k.xs

  -- nothing is left
  taken_all : {n : ℕ} {rest : List ℕ} → left ≡ got [] rest → i ≡ n → ValuesAt whole n 0 l m rest
  taken_all {rest} e f = record {
    xs = k.xs;
    reads = k.told ∙ ap (prepend k.xs) e ∙ prepend_end k.xs rest;
    long = k.long ∙ f;
    wrote = k.wrote;
  }

  -- some more are taken
  taken_more : {rest : Read (List Float)} {j : ℕ} (ys : List Float) → left ≡ prepend ys rest → i + length ys ≡ j
      → j ≤ length l → Taken whole rest j l (put m i ys)
  taken_more {rest} ys e f h =
      let q : i ≡ 0 + length k.xs = omega (arith, k.long) in
      record {
        xs = k.xs ++ ys;
        long = length-append k.xs ys ∙ ap (λ (n : ℕ). n + length ys) k.long ∙ f;
        wrote = (λ a. put (k.wrote a) (q a) ys) ∙ put-put l 0 k.xs ys (omega (arith, k.long));
        told = k.told ∙ ap (prepend k.xs) e ∙ prepend_more k.xs ys rest;
      }

-- ---- several doubles

-- a value, and then the others
by_word : {A B : Type 0} (x : A) (w : Read (Unit {0})) (g : A → List ℕ → Read B)
    → then w (λ _ c. g x c) ≡ then (then w (λ _ c. got x c)) g
unfolding then
by_word x bad g = refl
by_word x (got u c) g = refl

by_value : (d : Read Float) (b : ℕ) (g : Float → List ℕ → Read (List Float))
    → then d (λ x a. then (word (b ∷ []) a) (λ _ c. g x c))
    ≡ then (then d (λ x a. then (word (b ∷ []) a) (λ _ c. got x c))) g
unfolding then
by_value bad b g = refl
by_value (got x a) b g = by_word x (word (b ∷ []) a) g

values_by : (n m : ℕ) (t : List ℕ) (b : ℕ) → n ≡ suc m → b ≡ behind m
    → values n t ≡ then (value b t) (λ x c. prepend (x ∷ []) (values m c))
unfolding values value prepend
values_by n m t b e f = rw (e, f) (by_value (double t) (behind m) _)

-- where a value cannot be read, neither can the values
values-stuck : (n m : ℕ) (t : List ℕ) (b : ℕ) → n ≡ suc m → b ≡ behind m → value b t ≡ bad → values n t ≡ bad
values-stuck n m t b e f h = values_by n m t b e f ∙ then-bad (value b t) _ h

values_one : (n m : ℕ) (t c : List ℕ) (b : ℕ) (x : Float) → n ≡ suc m → b ≡ behind m → value b t ≡ got x c
    → values n t ≡ prepend (x ∷ []) (values m c)
values_one n m t c b x e f h = values_by n m t b e f ∙ then-got (value b t) _ x c h

module _ (n : ℕ) (t : List ℕ) (l : List Float) where
  -- The first i values are taken, the others are read from `rest`.
  abbrev pub Values : ℕ → List ℕ → List Float → Type 0
  Values i rest m = Taken (values n t) (values (n - i) rest) i l m

  -- before the first value
  pub values_begin : Values 0 t l
  values_begin = let z : n ≡ n - 0 = omega arith in taken_none l (ap (λ (q : ℕ). values q t) z)

  module _ (i b : ℕ) (rest : List ℕ) (m : List Float) (r : Option (Float × Bor (List ℕ))) (less : i < n)
      (sep : b ≡ behind (n - i - 1)) (read : read_of r ≡ value b rest) (so : Values i rest m) where
    next : n - i ≡ suc (n - i - 1)
    next = omega arith

    -- a value that cannot be read
    pub values-stop : r ≡ None → values n t ≡ bad
    values-stop e = taken-bad so (values-stuck (n - i) (n - i - 1) rest b next sep (nothing_read r read e))

    -- one value
    pub values_turn : (x : Float) (c : Bor (List ℕ)) → r ≡ Some (x, c) → n ≤ length l
        → Values (i + 1) c.now (set m i x)
    values_turn x c e h =
        let s : n - i - 1 ≡ n - (i + 1) = omega arith in
        let w : length m ≡ length l = rw so.wrote (length-put l 0 so.xs (omega (arith, so.long))) in
        let o : values (n - i) rest ≡ prepend (x ∷ []) (values (n - (i + 1)) c.now) =
        rw (← s) (values_one (n - i) (n - i - 1) rest c.now b x next sep (was_read r read x c e)) in
        rw (put_one m i x (omega arith)) (taken_more so (x ∷ []) o refl (omega arith))

  -- behind the last value
  pub values_end : (i : ℕ) (rest : List ℕ) (m : List Float) → n ≤ i → i ≤ n → Values i rest m
      → ValuesAt (values n t) n 0 l m rest
  unfolding values
  values_end i rest m g h so =
      let z : n - i ≡ 0 = omega arith in
      taken_all so (ap (λ (q : ℕ). values q rest) z) (omega arith)

-- ---- lines of doubles

module _ (key t : List ℕ) (n : ℕ) (r : Option (Bor (List ℕ))) (w : word_of r ≡ word key t) where
  -- the key is missing
  pub line_keyless : r ≡ None → line key n t ≡ bad
  unfolding line
  line_keyless e = then-bad (word key t) _ (no_word r w e)

  line_is : (a : Bor (List ℕ)) → r ≡ Some a → line key n t ≡ values n a.now
  unfolding line
  line_is a e = then-got (word key t) _ tt a.now (was_word r w a e)

  -- the values behind the key
  pub line-rest : (a : Bor (List ℕ)) → r ≡ Some a → (l m : List Float) (q : Option (Bor (List ℕ)))
      → ValuesRead (values n a.now) n 0 l m q → ValuesRead (line key n t) n 0 l m q
  line-rest a e l m q h = subst (λ (spec : Read (List Float)). ValuesRead spec n 0 l m q) (sym (line_is a e)) h

lines-stuck : (key : List ℕ) (n k m : ℕ) (t : List ℕ) → k ≡ suc m → line key n t ≡ bad → lines key n k t ≡ bad
unfolding lines
lines-stuck key n k m t e h = rw e (then-bad (line key n t) _ h)

lines_one : (key : List ℕ) (n k m : ℕ) (t a : List ℕ) (ys : List Float) → k ≡ suc m → line key n t ≡ got ys a
    → lines key n k t ≡ prepend ys (lines key n m a)
unfolding lines prepend
lines_one key n k m t a ys e h = rw e (then-got (line key n t) _ ys a h)

-- one more row of n is within k of them
pub row_in : (n i k : ℕ) → i < k → n * i + n ≤ n * k
row_in n i k h = rw (← mul-suc n i) (mul-le-mul_left n h)

module _ (key : List ℕ) (n k : ℕ) (t : List ℕ) (l : List Float) where
  -- The first i lines are taken, the others are read from `rest`.
  abbrev pub Lines : ℕ → List ℕ → List Float → Type 0
  Lines i rest m = Taken (lines key n k t) (lines key n (k - i) rest) (n * i) l m

  -- before the first line
  pub lines_begin : Lines 0 t l
  lines_begin =
      let z : k ≡ k - 0 = omega arith in
      rw (mul-zero n) (taken_none l (ap (λ (q : ℕ). lines key n q t) z))

  module _ (i : ℕ) (rest : List ℕ) (m w : List Float) (r : Option (Bor (List ℕ))) (less : i < k)
      (read : ValuesRead (line key n rest) n (n * i) m w r) (so : Lines i rest m) where
    left : k - i ≡ suc (k - (i + 1))
    left = omega arith

    -- a line that cannot be read
    pub lines-stop : r ≡ None → lines key n k t ≡ bad
    lines-stop e =
        taken-bad so (lines-stuck key n (k - i) (k - (i + 1)) rest left (subst (ValuesRead _ n _ m w) e read))

    -- one line
    pub lines_turn : (c : Bor (List ℕ)) → r ≡ Some c → n * k ≤ length l → Lines (i + 1) c.now w
    lines_turn c e h =
        let v = subst (ValuesRead (line key n rest) n (n * i) m w) e read in
        let f : n * i + length v.xs ≡ n * (i + 1) = rw (v.long, add-one i, mul-suc n i) in
        let g : n * (i + 1) ≤ n * k = rw (add-one i) (mul-le-mul_left n less) in
        let o = lines_one key n (k - i) (k - (i + 1)) rest c.now v.xs left v.reads in
        rw v.wrote (taken_more so v.xs o f (omega arith))

  -- behind the last line
  pub lines_end : (i : ℕ) (rest : List ℕ) (m : List Float) → k ≤ i → i ≤ k → Lines i rest m
      → ValuesAt (lines key n k t) (n * k) 0 l m rest
  unfolding lines
  lines_end i rest m g h so =
      let z : k - i ≡ 0 = omega arith in
      let y : i ≡ k = omega arith in
      taken_all so (ap (λ (q : ℕ). lines key n q rest) z) (ap (λ (q : ℕ). n * q) y)

-- ---- doubles that are written to a part of a memory

-- where the part comes back
pub placed : (spec : Read (List Float)) (n at k : ℕ) (l m : List Float) (q : Option (Bor (List ℕ))) → at + k ≤ length l
    → k ≡ n → ValuesRead spec n 0 (part l at k) m q → ValuesRead spec n at l (put_mid at k l m) q
unfolding put
placed spec n at k l m None h e v = v
placed spec n at k l m (Some c) h e v =
    let whole : length v.xs ≡ length (part l at k) = v.long ∙ sym e ∙ sym (length_part l at k h) in
    let f : at + k ≡ at + length v.xs = omega (arith, e, v.long) in
    record {
      xs = v.xs;
      reads = v.reads;
      long = v.long;
      wrote =
          ap (put_mid at k l) (v.wrote ∙ put_whole (part l at k) v.xs whole)
          ∙ (λ i. take at l ++ (v.xs ++ (drop-drop k at l ∙ ap (λ (x : ℕ). drop x l) f) i));
    }

pub line_placed : (key t : List ℕ) (n at k : ℕ) (l m : List Float) (q : Option (Bor (List ℕ))) → at + k ≤ length l
    → k ≡ n
    → let w = length (part l at k) in
    ValuesRead (line key w t) w 0 (part l at k) m q → ValuesRead (line key n t) n at l (put_mid at k l m) q
line_placed key t n at k l m q h e v =
    placed (line key n t) n at k l m q h e
    (subst (λ (w : ℕ). ValuesRead (line key w t) w 0 (part l at k) m q) (length_part l at k h ∙ e) v)

-- row i of k
pub row_placed : (key t : List ℕ) (n i k : ℕ) (l m : List Float) (q : Option (Bor (List ℕ))) → i < k → n * k ≤ length l
    → let b = n * i + n - n * i in
    let w = length (part l (n * i) b) in
    ValuesRead (line key w t) w 0 (part l (n * i) b) m q → ValuesRead (line key n t) n (n * i) l (put_mid (n * i) b l m) q
row_placed key t n i k l m q h g v =
    let e : n * i + n - n * i ≡ n = omega arith in
    line_placed key t n (n * i) _ l m q (omega (arith, e, row_in n i k h, g)) e v
