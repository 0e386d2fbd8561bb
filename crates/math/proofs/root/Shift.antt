-- The steps before the root, `normal` and `even`: m * 2 ^ a stays the same number. It leans on the arithmetic of whole numbers alone.
use mathlib.Core.Path.{◌≡◌, sym, ap, ap₂, ◌∙◌}
use Prim.Native.Nat.{ℕ, suc, ◌+◌, ◌-◌, ◌*◌, ◌%◌, ◌^◌, ◌≤◌, ◌<◌}
use native.Mathlib.Nat.{le_trans, le_of_eq, lt_of_lt_of_le, lt_of_le_of_lt, lt_irrefl, lt_of_not-le, mul_assoc, mul-le-mul_right, mul-lt-mul_of_pos_right, pow-succ'}
use native.Mathlib.Omega.{arith}
use lib.Pow.{pow-add, pow_pos, pow_mono}
use Rattle.std.specs.Int.Count.{count_leading_zeros}
use Rattle.std.proofs.lemmas.Nat.{leading_top}
use Rattle.math.specs.Scale.{Normal, Even}

half : (m a : ℕ) → 1 ≤ a → m * 2 * 2 ^ (a - 1) ≡ m * 2 ^ a
half m a h = mul_assoc m 2 (2 ^ (a - 1)) ∙ ap (λ (x : ℕ). m * x) (sym (pow-succ' 2 (a - 1)) ∙ ap (λ (x : ℕ). 2 ^ x) (back a h))
  where
    back : (a : ℕ) → 1 ≤ a → suc (a - 1) ≡ a
    back a h = omega arith

-- m₀ has 53 digits once it is moved up by as many places as it has leading zeros in 64, but for the first 11
record Places (m₀ z u : ℕ) : Type 0 where
  pub zeros : z ≡ u + 11
  pub low : 2 ^ 52 ≤ m₀ * 2 ^ u
  pub high : m₀ * 2 ^ u < 2 ^ 53
  pub most : u ≤ 52

placed : (m₀ z j : ℕ) → m₀ < 2 ^ 53 → z + suc j ≡ 64 → 2 ^ j ≤ m₀ → m₀ < 2 ^ suc j → Places m₀ z (52 - j)
placed m₀ z j h e l g = record {
  zeros = omega (arith, below);
  low = le_trans (le_of_eq (full j 52 (omega (arith, below)))) (mul-le-mul_right (2 ^ (52 - j)) l);
  high = lt_of_lt_of_le (mul-lt-mul_of_pos_right g (pow_pos (52 - j))) (le_of_eq (sym (full (suc j) 53 (omega (arith, below)))));
  most = omega arith;
}
  where
    below : j < 53
    below = lt_of_not-le (λ (k : 53 ≤ j). lt_irrefl (2 ^ 53) (lt_of_le_of_lt (le_trans (pow_mono k) l) h))

    full : (i n : ℕ) → i + (52 - j) ≡ n → 2 ^ n ≡ 2 ^ i * 2 ^ (52 - j)
    full i n e = sym (ap (λ (x : ℕ). 2 ^ x) e) ∙ pow-add 2 i (52 - j)

places : (m₀ : ℕ) → 0 < m₀ → m₀ < 2 ^ 53 → (u : ℕ) × Places m₀ (count_leading_zeros 64 m₀) u
places m₀ p h = let t = leading_top 64 m₀ p (omega arith) in (52 - t.0, placed m₀ _ t.0 h t.1 t.2 t.3)

pub enough : (m₀ : ℕ) → 0 < m₀ → m₀ < 2 ^ 53 → 11 ≤ count_leading_zeros 64 m₀
enough m₀ p h = omega (arith, (places m₀ p h).1.zeros)

pub moved : (m₀ a₀ d : ℕ) → 0 < m₀ → m₀ < 2 ^ 53 → 1074 ≤ a₀ → d ≡ count_leading_zeros 64 m₀ - 11 → Normal m₀ a₀ (m₀ * 2 ^ (count_leading_zeros 64 m₀ - 11) % 2 ^ 64) (a₀ - d)
moved m₀ a₀ d p h k e =
    let t = places m₀ p h in
    at (count_leading_zeros 64 m₀ - 11) (omega (arith, t.1.zeros)) d (e ∙ omega (arith, t.1.zeros)) t.1
  where
    cut : (x : ℕ) → x < 2 ^ 53 → x % 2 ^ 64 ≡ x
    cut x h = omega arith

    whole : (u : ℕ) → u ≤ 52 → u + (a₀ - u) ≡ a₀
    whole u h = omega (arith, k)

    at : (z : ℕ) → {u : ℕ} → z ≡ u → (d : ℕ) → d ≡ u → Places m₀ (count_leading_zeros 64 m₀) u → Normal m₀ a₀ (m₀ * 2 ^ z % 2 ^ 64) (a₀ - d)
    at z {u} f d g t =
        let e : m₀ * 2 ^ z % 2 ^ 64 ≡ m₀ * 2 ^ u = ap (λ (x : ℕ). m₀ * 2 ^ x % 2 ^ 64) f ∙ cut (m₀ * 2 ^ u) t.high in
        record {
          same = ap₂ (λ (x y : ℕ). x * 2 ^ (a₀ - y)) e g ∙ mul_assoc m₀ (2 ^ u) (2 ^ (a₀ - u)) ∙ ap (λ (x : ℕ). m₀ * x) (sym (pow-add 2 u (a₀ - u)) ∙ ap (λ (x : ℕ). 2 ^ x) (whole u t.most));
          low = le_trans t.low (le_of_eq (sym e));
          high = lt_of_le_of_lt (le_of_eq e) t.high;
          least = omega (arith, g, t.most, k);
          most = omega arith;
        }

pub odd_case : (m a : ℕ) → a % 2 ≡ 1 → Even m a (m * 2) (a - 1)
odd_case m a e = record { same = half m a (omega arith); low = omega arith; high = omega arith; least = omega arith; most = omega arith; even = omega arith }
