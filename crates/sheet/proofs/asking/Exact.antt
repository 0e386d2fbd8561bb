-- The sum of a sheet is exact: what hi and lo do to the bytes is hi minus lo, in units of 2^-1074. Leans on what crates/math promises of bit patterns.
use Prim.Native.Nat.{ℕ, ◌+◌, ◌-◌, ◌*◌, ◌^◌, ◌≤◌, ◌<◌}
use native.Mathlib.Nat.{zero-add, mul-one, le_of_mul-le-mul_right}
use native.Mathlib.Omega.{arith}
use mathlib.Core.Path.{◌≡◌, refl, sym, ap, ◌∙◌, subst}
use mathlib.Core.Bool.{Bool, true, false, cond}
use mathlib.Core.Logic.{◌⊎◌, inl, inr}
use mathlib.Core.List.{List, [], ◌∷◌}
use lib.ListN.{length}
use lib.IntN.{ℤ, pos}
use lib.Dec.{T}
use lib.Pow.{pow_pos}
use lib.Ieee.{fin, binary64, to_bits, le}
use Rattle.solver.proofs.Ring.{by_rep, by_eq, read}
use Rattle.exact.specs.Rational.{ℚ, 0ℚ, 1ℚ, ◌+ℚ◌, -ℚ◌, ◌-ℚ◌, ◌÷◌, signed, ◌≤ℚ◌, nn_of}
use Rattle.exact.proofs.Field.{ℚring}
use Rattle.exact.proofs.Order.{le_by}
use Rattle.exact.proofs.Embed.{÷_add, ÷_zero, ÷_le⁻¹}
use Rattle.math.specs.Values.{value}
use Rattle.math.specs.Digits.{size_of, Reading}
use Rattle.math.proofs.Bools.{compare_le, and_l, and_r}
use Rattle.math.specs.Encloses.{is_moderate}
use Rattle.math.proofs.Laws.{le→value}
use Rattle.sheet.specs.Sum.{number, Plus, Less, More, Fewer}
use Rattle.sheet.specs.Sheet.{Widened}
use Rattle.sheet.proofs.sum.Numbers.{Net, plus_net, less_net, both_nets, exact}

-- What a size does with its sign: it is added, or it is taken away.
abbrev pub above : Bool → ℕ → ℕ
above true n = 0
above false n = n

abbrev pub under : Bool → ℕ → ℕ
under true n = n
under false n = 0

-- ---- one double
module _ (s : Bool) (m : ℕ) (e : ℤ) (R : Reading s m e) where
  value_net : value (fin s m e) ≡ (above s (size_of R.bits) ÷ 2 ^ 1074) -ℚ (under s (size_of R.bits) ÷ 2 ^ 1074)
  value_net = R.size ∙ by s (size_of R.bits)
    where
      by : (s : Bool) (n : ℕ) → signed s (n ÷ 2 ^ 1074) ≡ (above s n ÷ 2 ^ 1074) -ℚ (under s n ÷ 2 ^ 1074)
      by true n = minus (n ÷ 2 ^ 1074) (0 ÷ 2 ^ 1074) (÷_zero (2 ^ 1074))
        where
          minus : (x z : ℚ) → z ≡ 0ℚ → -ℚ x ≡ z -ℚ x
          minus x z h = by_eq ℚring (-ℚ 1ℚ) h (by_rep ℚring (x ∷ z ∷ []) (search read depth 9) (search read depth 9) tt)
      by false n = plain (n ÷ 2 ^ 1074) (0 ÷ 2 ^ 1074) (÷_zero (2 ^ 1074))
        where
          plain : (x z : ℚ) → z ≡ 0ℚ → x ≡ x -ℚ z
          plain x z h = by_eq ℚring 1ℚ h (by_rep ℚring (x ∷ z ∷ []) (search read depth 9) (search read depth 9) tt)

  -- its pattern has no sign, or one
  pattern-plain : s ≡ false → to_bits binary64 (fin s m e) ≡ R.bits
  pattern-plain h = R.at ∙ ap (λ (b : Bool). cond b 0x8000_0000_0000_0000 0 + R.bits) h ∙ zero-add R.bits

  pattern-signed : s ≡ true → to_bits binary64 (fin s m e) ≡ 0x8000_0000_0000_0000 + R.bits
  pattern-signed h = R.at ∙ ap (λ (b : Bool). cond b 0x8000_0000_0000_0000 0 + R.bits) h

  off : (n : ℕ) → 0x8000_0000_0000_0000 + n - 0x8000_0000_0000_0000 ≡ n
  off n = omega arith

  more_net : (l k : List ℕ) → length l ≡ 150 → More l (to_bits binary64 (fin s m e)) k → Net l k (above s (size_of R.bits)) (under s (size_of R.bits))
  more_net l k h a = by s refl
    where
      by : (b : Bool) → s ≡ b → Net l k (above b (size_of R.bits)) (under b (size_of R.bits))
      by false e =
          let p = pattern-plain e in
          plus_net l k (size_of R.bits) h (subst (λ (b : ℕ). Plus l (size_of b) k) p (a.plain (omega (arith, p, R.below))))
      by true e =
          let p = pattern-signed e in
          less_net l k (size_of R.bits) h (subst (λ (b : ℕ). Less l (size_of b) k) (ap (λ (b : ℕ). b - 0x8000_0000_0000_0000) p ∙ off R.bits) (a.signed (omega (arith, p))))

  fewer_net : (l k : List ℕ) → length l ≡ 150 → Fewer l (to_bits binary64 (fin s m e)) k → Net l k (under s (size_of R.bits)) (above s (size_of R.bits))
  fewer_net l k h a = by s refl
    where
      by : (b : Bool) → s ≡ b → Net l k (under b (size_of R.bits)) (above b (size_of R.bits))
      by false e =
          let p = pattern-plain e in
          less_net l k (size_of R.bits) h (subst (λ (b : ℕ). Less l (size_of b) k) p (a.plain (omega (arith, p, R.below))))
      by true e =
          let p = pattern-signed e in
          plus_net l k (size_of R.bits) h (subst (λ (b : ℕ). Plus l (size_of b) k) (ap (λ (b : ℕ). b - 0x8000_0000_0000_0000) p ∙ off R.bits) (a.signed (omega (arith, p))))

  -- of either kind the bytes stay as many
  more_long : (l k : List ℕ) → More l (to_bits binary64 (fin s m e)) k → length k ≡ length l
  more_long l k a = by (compare_le 0x8000_0000_0000_0000 (to_bits binary64 (fin s m e)))
    where
      by : (0x8000_0000_0000_0000 ≤ to_bits binary64 (fin s m e)) ⊎ (to_bits binary64 (fin s m e) < 0x8000_0000_0000_0000) → length k ≡ length l
      by (inl h) = (a.signed h).long
      by (inr h) = (a.plain h).long

-- ---- hi and lo
module _ (s : Bool) (m : ℕ) (e : ℤ) (t : Bool) (n : ℕ) (f : ℤ) (H : Reading s m e) (L : Reading t n f) where
  -- What is added, and what is taken away, in units.
  abbrev up : ℕ
  up = above s (size_of H.bits) + under t (size_of L.bits)

  abbrev down : ℕ
  down = under s (size_of H.bits) + above t (size_of L.bits)

  sums : (a b : ℕ) → (a + b) ÷ 2 ^ 1074 ≡ a ÷ 2 ^ 1074 +ℚ b ÷ 2 ^ 1074
  sums a b = sym (÷_add a b (2 ^ 1074) (pow_pos 1074))

  -- hi minus lo
  difference : value (fin s m e) -ℚ value (fin t n f) ≡ (up ÷ 2 ^ 1074) -ℚ (down ÷ 2 ^ 1074)
  difference =
      (λ i. value_net s m e H i -ℚ value_net t n f L i)
      ∙ around (above s (size_of H.bits) ÷ 2 ^ 1074) (under s (size_of H.bits) ÷ 2 ^ 1074) (above t (size_of L.bits) ÷ 2 ^ 1074) (under t (size_of L.bits) ÷ 2 ^ 1074)
      ∙ sym (λ i. sums (above s (size_of H.bits)) (under t (size_of L.bits)) i -ℚ sums (under s (size_of H.bits)) (above t (size_of L.bits)) i)
    where
      around : (a b c d : ℚ) → (a -ℚ b) -ℚ (c -ℚ d) ≡ (a +ℚ d) -ℚ (b +ℚ c)
      around a b c d = by_rep ℚring (a ∷ b ∷ c ∷ d ∷ []) (search read depth 9) (search read depth 9) tt

  -- no more is taken away than is added, where lo is at most hi
  ordered : value (fin t n f) ≤ℚ value (fin s m e) → down ≤ up
  ordered h = cut (÷_le⁻¹ down up (2 ^ 1074) (2 ^ 1074) (pow_pos 1074) (pow_pos 1074) (le_by (nn_of h) (sym difference)))
    where
      cut : down * 2 ^ 1074 ≤ up * 2 ^ 1074 → down ≤ up
      cut k = le_of_mul-le-mul_right k (pow_pos 1074)

  -- in units
  pub widened-whole : (l k : List ℕ) → length l ≡ 150 → Widened l (fin t n f) (fin s m e) k → number k < 256 ^ 150 → value (fin t n f) ≤ℚ value (fin s m e) → number l + up < 256 ^ 150
      → number k + down ≡ number l + up
  widened-whole l k h w b o room =
      let net = both_nets l w.between k _ _ _ _ (more_net s m e H l w.between h w.more) (fewer_net t n f L w.between k (more_long s m e H l w.between w.more ∙ h) w.fewer) in
      exact l k up down net b (ordered o) room

  -- THE SUM IS EXACT, where it fits
  pub widened-exact : (l k : List ℕ) → number k + down ≡ number l + up
      → number k ÷ 2 ^ 1074 ≡ (number l ÷ 2 ^ 1074) +ℚ (value (fin s m e) -ℚ value (fin t n f))
  widened-exact l k whole =
      let level = sym (sums (number k) down) ∙ ap (λ (x : ℕ). x ÷ 2 ^ 1074) whole ∙ sums (number l) up in
      moved (number k ÷ 2 ^ 1074) (down ÷ 2 ^ 1074) (number l ÷ 2 ^ 1074) (up ÷ 2 ^ 1074) level ∙ ap (λ (x : ℚ). (number l ÷ 2 ^ 1074) +ℚ x) (sym difference)
    where
      moved : (a d b u : ℚ) → a +ℚ d ≡ b +ℚ u → a ≡ b +ℚ (u -ℚ d)
      moved a d b u h = by_eq ℚring 1ℚ h (by_rep ℚring (a ∷ d ∷ b ∷ u ∷ []) (search read depth 9) (search read depth 9) tt)

-- ---- how large a size is

-- a size of a double of at most 2 ^ 100
pub size-most : (s : Bool) (m : ℕ) (e : ℤ) (R : Reading s m e) → T (is_moderate (fin s m e)) → size_of R.bits ≤ 2 ^ 1174
size-most s m e R h =
    let low = le→value true 1 (pos 100) s m e (and_l (le (fin true 1 (pos 100)) (fin s m e)) (le (fin s m e) (fin false 1 (pos 100))) h) in
    let high = le→value s m e false 1 (pos 100) (and_r (le (fin true 1 (pos 100)) (fin s m e)) (le (fin s m e) (fin false 1 (pos 100))) h) in
    by s (size_of R.bits) (subst (λ (x : ℚ). value (fin true 1 (pos 100)) ≤ℚ x) R.size low) (subst (λ (x : ℚ). x ≤ℚ value (fin false 1 (pos 100))) R.size high)
  where
    most : (n : ℕ) → n ÷ 2 ^ 1074 ≤ℚ (1 * 2 ^ 100) ÷ 1 → n ≤ 2 ^ 1174
    most n k = subst (λ (x : ℕ). x ≤ 2 ^ 1174) (mul-one n) (÷_le⁻¹ n (1 * 2 ^ 100) (2 ^ 1074) 1 (pow_pos 1074) (omega arith) k)

    by : (s : Bool) (n : ℕ) → value (fin true 1 (pos 100)) ≤ℚ signed s (n ÷ 2 ^ 1074) → signed s (n ÷ 2 ^ 1074) ≤ℚ value (fin false 1 (pos 100)) → n ≤ 2 ^ 1174
    by false n a b = most n (unfold value in b)
    by true n a b = most n (turn (n ÷ 2 ^ 1074) ((1 * 2 ^ 100) ÷ 1) (unfold value in a))
      where
        turn : (x y : ℚ) → -ℚ y ≤ℚ -ℚ x → x ≤ℚ y
        turn x y h = le_by (nn_of h) (by_rep ℚring (x ∷ y ∷ []) (search read depth 9) (search read depth 9) tt)
