-- Laws of the number that some digits are, in any base and with any value of a digit: what a loop over them knows.
-- Assumes nothing.
use mathlib.Core.Path.{◌≡◌, refl, ap, ◌∙◌}
use mathlib.Core.List.{List}
use Prim.Native.Nat.{ℕ, suc, ◌+◌, ◌*◌, ◌^◌, ◌≤◌, ◌<◌}
use native.Mathlib.Nat.{pow-zero, pow-suc, pow-le-pow_right, mul_comm, mul-suc, mul-le-mul_left}
use native.Mathlib.Numerals.{add-one}
use native.Mathlib.Omega.{arith}
use lib.ListN.{length, take, get_or}
use Rattle.std.proofs.lemmas.List.{take_all}
use Rattle.lists.specs.Lists.{foldl}
use Rattle.lists.proofs.Fold.{foldl-part}
use Rattle.text.specs.Numerals.{in_base}

-- v is the number that the first i digits are.
pub record Known (base : ℕ) (value : ℕ → ℕ) (l : List ℕ) (i v : ℕ) : Type 0 where
  pub number : v ≡ in_base base value (take i l)
  pub below : v < base ^ i

-- before the first digit
pub known_none : {base : ℕ} {value : ℕ → ℕ} {l : List ℕ} → Known base value l 0 0
unfolding in_base foldl
known_none {base} = record { number = refl; below = omega (arith, pow-zero base) }

module _ {base : ℕ} {value : ℕ → ℕ} {l : List ℕ} {i v : ℕ} (k : Known base value l i v) where
  -- one more digit
  pub known_turn : (d : ℕ) → i < length l → d ≡ value (get_or l i 0) → d < base
      → Known base value l (i + 1) (base * v + d)
  unfolding in_base
  known_turn d g e h =
      let p : base ^ (i + 1) ≡ base * base ^ i =
      ap (λ (n : ℕ). base ^ n) (add-one i) ∙ pow-suc base i ∙ mul_comm (base ^ i) base in
      let m : base * suc v ≤ base * base ^ i = mul-le-mul_left base k.below in
      let f : ℕ → ℕ → ℕ = λ n b. base * n + value b in
      let z : i ≡ 0 + i = omega arith in
      record {
        number =
            rw (k.number, e)
            (ap (λ (j : ℕ). f (in_base base value (take i l)) (get_or l j 0)) z
            ∙ foldl-part f 0 l 0 i 0 (omega (arith, g)));
        below = omega (arith, p, m, mul-suc base v);
      }

  -- of at most n digits
  pub known_most : (n : ℕ) → 0 < base → i ≤ n → v < base ^ n
  known_most n p g = omega (arith, k.below, pow-le-pow_right {n = base} p {i = i} {j = n} g)

  -- behind the last digit
  pub known_all : length l ≤ i → v ≡ in_base base value l
  known_all h = k.number ∙ ap (in_base base value) (take_all i l h)
