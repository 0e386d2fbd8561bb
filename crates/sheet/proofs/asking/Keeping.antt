-- A sheet that is kept tells of all its questions: one question more. Leans on Exact, and on how large the bounds of an answer are (crates/model).
use Prim.Native.Nat.{ℕ, zero, suc, ◌+◌, ◌*◌, ◌^◌, ◌≤◌, ◌<◌}
use native.Mathlib.Nat.{mul-le-mul_right, le_trans, lt_of_le_of_lt}
use native.Mathlib.Numerals.{add-one}
use native.Mathlib.Omega.{arith}
use mathlib.Core.Path.{◌≡◌, refl, sym, ap, ◌∙◌, subst}
use mathlib.Core.Bool.{Bool, true, false, cond, ◌&&◌}
use mathlib.Core.List.{List, [], ◌∷◌}
use lib.ListN.{length, get_or, replicate}
use lib.IntN.{ℤ}
use lib.Dec.{T, ltb→lt}
use lib.Ieee.{Float, nan, inf, fin, lt, le, eq}
use borrow.Author.Tests.{lt-ltb}
use Rattle.lists.specs.Lists.{count}
use Rattle.lists.proofs.Fold.{count_le}
use Rattle.exact.specs.Rational.{ℚ, 0ℚ, ◌+ℚ◌, ◌-ℚ◌, ◌÷◌}
use Rattle.exact.proofs.Field.{+ℚ_comm, +ℚ_0}
use Rattle.exact.proofs.Embed.{÷_zero}
use Rattle.math.specs.Values.{value}
use Rattle.math.specs.Digits.{size_of}
use Rattle.math.specs.Encloses.{is_moderate}
use Rattle.math.proofs.Laws.{le→value, reading}
use Rattle.model.specs.Call.{Call, area_after}
use Rattle.model.specs.Promise.{Answers}
use Rattle.model.specs.declared.subdivide.Counts.{Counts}
use Rattle.model.specs.declared.contains.Found.{Found}
use Rattle.model.specs.declared.contains.Found.TheVariants.{Nothing, Enclosed, Spent, Refused}
use Rattle.model.proofs.Moderate.{moderate}
use Rattle.text.specs.Question.{Reading, refused_by, asks, call_of}
use Rattle.text.specs.Respond.{AnswersReading}
use Rattle.sheet.specs.Sum.{number, AllBytes}
use Rattle.sheet.specs.Sheet.{is_none, is_enclosed, is_spent, is_refused, width, widths, empty_sheet, Kept, one_more, Widened, SumAfter, Tallied, BoundsKept}
use Rattle.sheet.specs.declared.asking.Sheet.{Sheet}
use Rattle.sheet.proofs.sum.Numbers.{number_below, number_zeros}
use Rattle.sheet.proofs.asking.Exact.{above, under, widened-whole, widened-exact, size-most}

-- ---- counts

one_on : (n : ℕ) → n < 65535 → one_more n ≡ suc n
one_on n h = rw (lt-ltb n 65535 h) (add-one n)

-- a count of the answers, with one more in front
counted : (p : Found → Bool) (f : Found) (rs : List Found) (n r : ℕ) → length rs < 65535 → n ≡ count p rs → r ≡ cond (p f) (one_more n) n → r ≡ count p (f ∷ rs)
unfolding count
counted p f rs n r h e g = g ∙ by (p f)
  where
    small : n < 65535
    small = omega (arith, e, count_le p rs, h)

    by : (b : Bool) → cond b (one_more n) n ≡ cond b 1 0 + count p rs
    by true = one_on n small ∙ ap suc e ∙ one (count p rs)
      where
        one : (n : ℕ) → suc n ≡ 1 + n
        one n = omega arith
    by false = e ∙ none (count p rs)
      where
        none : (n : ℕ) → n ≡ 0 + n
        none n = omega arith

-- ---- the sum

record Summed (l : List ℕ) (f : Found) (rs : List Found) (k : List ℕ) : Type 0 where
  long : length k ≡ 150
  sum : number k ÷ 2 ^ 1074 ≡ width f +ℚ widths rs
  most : number k ≤ count is_enclosed (f ∷ rs) * 2 ^ 1175

-- an answer without bounds
same_sum : (l : List ℕ) (f : Found) (rs : List Found) (k : List ℕ) → length l ≡ 150 → number l ÷ 2 ^ 1074 ≡ widths rs → number l ≤ count is_enclosed rs * 2 ^ 1175 → k ≡ l
    → is_enclosed f ≡ false → width f ≡ 0ℚ → Summed l f rs k
unfolding count
same_sum l f rs k h t m e p w = record {
  long = ap length e ∙ h;
  sum = ap (λ (x : List ℕ). number x ÷ 2 ^ 1074) e ∙ t ∙ sym (+ℚ_0 (widths rs)) ∙ +ℚ_comm (widths rs) 0ℚ ∙ sym (ap (λ (x : ℚ). x +ℚ widths rs) w);
  most = subst (λ (b : Bool). number k ≤ (cond b 1 0 + count is_enclosed rs) * 2 ^ 1175) (sym p) (subst (λ (x : List ℕ). number x ≤ (0 + count is_enclosed rs) * 2 ^ 1175) (sym e) (subst (λ (n : ℕ). number l ≤ n * 2 ^ 1175) (zero (count is_enclosed rs)) m));
}
  where
    zero : (n : ℕ) → n ≡ 0 + n
    zero n = omega arith

-- a double that is moderate is finite
pub record Finite (x : Float) : Type 0 where
  pub sign : Bool
  pub digits : ℕ
  pub power : ℤ
  pub is : x ≡ fin sign digits power

finite : (x : Float) → T (is_moderate x) → Finite x
unfolding le lt eq
finite nan h = absurd h
finite (inf true) h = absurd h
finite (inf false) h = absurd h
finite (fin s m e) h = record { sign = s; digits = m; power = e; is = refl }

least : (n : ℕ) → 0 ≤ n
least n = omega arith

-- there is room: 65,535 times 2 ^ 1175 and that once more
room : (n c u : ℕ) → n ≤ c * 2 ^ 1175 → c < 65535 → u ≤ 2 ^ 1175 → n + u < 256 ^ 150
room n c u h g f = lt_of_le_of_lt (le_trans (plain n u (c * 2 ^ 1175) (2 ^ 1175) h f) (under' c (2 ^ 1175) g)) (ltb→lt (65535 * 2 ^ 1175) (256 ^ 150) tt)
  where
    plain : (n u a p : ℕ) → n ≤ a → u ≤ p → n + u ≤ a + p
    plain n u a p h f = omega (arith, h, f)

    under' : (c p : ℕ) → c < 65535 → c * p + p ≤ 65535 * p
    under' c p g = subst (λ (x : ℕ). x ≤ 65535 * p) (more c p) (mul-le-mul_right p g)
      where
        more : (c p : ℕ) → suc c * p ≡ c * p + p
        more c p = omega arith

-- an enclosed answer, of finite bounds
module _ (s : Bool) (m : ℕ) (e : ℤ) (t : Bool) (n : ℕ) (f : ℤ) (v : Counts) where
  finite-sum : (l : List ℕ) (rs : List Found) (q : List ℕ) → length l ≡ 150 → length rs < 65535 → number l ÷ 2 ^ 1074 ≡ widths rs → number l ≤ count is_enclosed rs * 2 ^ 1175
      → Widened l (fin t n f) (fin s m e) q → length q ≡ 150 → AllBytes q → BoundsKept (Enclosed (fin t n f) (fin s m e) v) → Summed l (Enclosed (fin t n f) (fin s m e) v) rs q
  unfolding width count
  finite-sum l rs q h g told most w long bytes b =
      let H = reading s m e w.hi_double in
      let L = reading t n f w.lo_double in
      let up : ℕ = above s (size_of H.bits) + under t (size_of L.bits) in
      let down : ℕ = under s (size_of H.bits) + above t (size_of L.bits) in
      let few : up ≤ 2 ^ 1175 = halves s t (size_of H.bits) (size_of L.bits) (size-most s m e H b.1) (size-most t n f L b.0) in
      let below : number q < 256 ^ 150 = subst (λ (x : ℕ). number q < 256 ^ x) long (number_below q bytes) in
      let fits = room (number l) (count is_enclosed rs) up most (omega (arith, g, count_le is_enclosed rs)) few in
      let whole : number q + down ≡ number l + up = widened-whole s m e t n f H L l q h w below (le→value t n f s m e b.2) fits in record {
        long = long;
        sum = widened-exact s m e t n f H L l q whole ∙ ap (λ (x : ℚ). x +ℚ (value (fin s m e) -ℚ value (fin t n f))) told ∙ +ℚ_comm (widths rs) (value (fin s m e) -ℚ value (fin t n f));
        most = total (number q) down (number l) up (count is_enclosed rs) (2 ^ 1175) whole most few;
      }
    where
      halves : (s t : Bool) (a b : ℕ) → a ≤ 2 ^ 1174 → b ≤ 2 ^ 1174 → above s a + under t b ≤ 2 ^ 1175
      halves s t a b h g = twice (above s a) (under t b) (2 ^ 1174) (one s a h) (other t b g)
        where
          one : (s : Bool) (a : ℕ) → a ≤ 2 ^ 1174 → above s a ≤ 2 ^ 1174
          one true a h = least (2 ^ 1174)
          one false a h = h

          other : (t : Bool) (b : ℕ) → b ≤ 2 ^ 1174 → under t b ≤ 2 ^ 1174
          other true b g = g
          other false b g = least (2 ^ 1174)

          twice : (x y p : ℕ) → x ≤ p → y ≤ p → x + y ≤ 2 * p
          twice x y p h g = omega (arith, h, g)

      total : (q d l u c p : ℕ) → q + d ≡ l + u → l ≤ c * p → u ≤ p → q ≤ (1 + c) * p
      total q d l u c p e h g = omega (arith, e, h, g)

-- any answer
summed : (f : Found) (l : List ℕ) (rs : List Found) (q : List ℕ) → length l ≡ 150 → length rs < 65535 → number l ÷ 2 ^ 1074 ≡ widths rs → number l ≤ count is_enclosed rs * 2 ^ 1175
    → SumAfter l f q → length q ≡ 150 → AllBytes q → BoundsKept f → Summed l f rs q
summed (Nothing v) l rs q h g t m a long bytes b = same_sum l (Nothing v) rs q h t m a refl (unfold width in refl)
summed (Spent n v) l rs q h g t m a long bytes b = same_sum l (Spent n v) rs q h t m a refl (unfold width in refl)
summed (Refused e v) l rs q h g t m a long bytes b = same_sum l (Refused e v) rs q h t m a refl (unfold width in refl)
summed (Enclosed lo hi v) l rs q h g t m a long bytes b = by (finite lo b.0) (finite hi b.1)
  where
    Goal : Float → Float → Type 0
    Goal x y = Widened l x y q → BoundsKept (Enclosed x y v) → Summed l (Enclosed x y v) rs q

    by : Finite lo → Finite hi → Summed l (Enclosed lo hi v) rs q
    by L H =
        subst (λ (x : Float). Goal x hi) (sym L.is)
        (subst (λ (y : Float). Goal (fin L.sign L.digits L.power) y) (sym H.is)
        (λ w c. finite-sum H.sign H.digits H.power L.sign L.digits L.power v l rs q h g t m w long bytes c))
        a b

-- ---- THE LAW: one question more
pub kept_on : (s r : Sheet) (f : Found) (rs : List Found) → length rs < 65535 → Kept s rs → Tallied s f r → length r.sum ≡ 150 → AllBytes r.sum → BoundsKept f → Kept r (f ∷ rs)
kept_on s r f rs h K a long bytes b = record {
  told = record {
    questions = a.questions ∙ one_on s.questions (omega (arith, K.told.questions, h)) ∙ ap suc K.told.questions;
    none = counted is_none f rs s.none r.none h K.told.none a.none;
    enclosed = counted is_enclosed f rs s.enclosed r.enclosed h K.told.enclosed a.enclosed;
    spent = counted is_spent f rs s.spent r.spent h K.told.spent a.spent;
    refused = counted is_refused f rs s.refused r.refused h K.told.refused a.refused;
    sum = z.sum ∙ (unfold widths in refl);
  };
  within = h;
  long = z.long;
  bytes = bytes;
  most = z.most;
}
  where
    z : Summed s.sum f rs r.sum
    z = summed f s.sum rs r.sum K.long h K.told.sum K.most a.sum long bytes b

-- and at the start
all_zero : (n i : ℕ) → get_or (replicate n 0) i 0 < 256
all_zero zero zero = omega arith
all_zero zero (suc i) = omega arith
all_zero (suc n) zero = omega arith
all_zero (suc n) (suc i) = all_zero n i

pub kept_empty : Kept empty_sheet []
unfolding count widths
kept_empty = record {
  told = record { questions = refl; none = refl; enclosed = refl; spent = refl; refused = refl; sum = ap (λ (n : ℕ). n ÷ 2 ^ 1074) (number_zeros 150) ∙ ÷_zero (2 ^ 1074) };
  within = least 65535;
  long = refl;
  bytes = λ i _. all_zero 150 i;
  most = subst (λ (n : ℕ). n ≤ 0 * 2 ^ 1175) (sym (number_zeros 150)) (least (0 * 2 ^ 1175));
}

-- ---- the bounds of an answer

pub bounds_kept : (c : Call) (before after : List Float) (f : Found) → Answers c before after f → BoundsKept f
bounds_kept c before after (Nothing v) A = tt
bounds_kept c before after (Spent n v) A = tt
bounds_kept c before after (Refused e v) A = tt
bounds_kept c before after (Enclosed lo hi v) A =
    let small = moderate.bounds c before after (Enclosed lo hi v) A in
    (small.0, small.1, middle (lt (inf true) lo) (le lo hi) (lt hi (inf false)) A.order)
  where
    middle : (a b d : Bool) → T (a && b && d) → T b
    middle true true d h = tt
    middle true false d h = h
    middle false b d h = absurd h

-- of one to a text
pub text-bounds : (a : Reading) (f : Found) → AnswersReading a f → BoundsKept f
text-bounds (refused_by n) f (r, number, h) = subst BoundsKept (sym h) tt
text-bounds (asks rev q p) f h = bounds_kept (call_of rev q p) [] (area_after (call_of rev q p) []) f (h [])
