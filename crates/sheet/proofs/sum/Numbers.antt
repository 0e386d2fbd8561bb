-- A whole number as bytes: one byte written, a turn of a sum and of a difference. Assumes nothing.
use Prim.Native.Nat.{ℕ, zero, suc, ◌+◌, ◌-◌, ◌*◌, ◌/◌, ◌%◌, ◌^◌, ◌≤◌, ◌<◌}
use native.Mathlib.Nat.{pow-succ', div-add-mod', mul_assoc, not-suc-le-zero, le_of_suc-le-suc}
use native.Mathlib.Numerals.{add-one}
use native.Mathlib.Omega.{arith}
use mathlib.Core.Path.{◌≡◌, refl, sym, ap, ◌∙◌, subst}
use mathlib.Core.List.{List, [], ◌∷◌}
use lib.Pow.{pow-add}
use lib.ListN.{length, set, get_or, replicate}
use Rattle.sheet.specs.Sum.{number, AllBytes, Added, Taken, Plus, Less}
use Rattle.math.specs.Digits.{digits_of, shift_of, size_of}

-- ---- one byte

-- the step of the law below
one_up : (b a g n v : ℕ) → a + g ≡ n + v → b + 256 * a + 256 * g ≡ b + 256 * n + 256 * v
one_up b a g n v h = omega (arith, h)

moved : (g i : ℕ) → g * 256 ^ suc i ≡ 256 * (g * 256 ^ i)
moved g i = ap (λ (p : ℕ). g * p) (pow-succ' 256 i) ∙ around g (256 ^ i)
  where
    around : (g p : ℕ) → g * (256 * p) ≡ 256 * (g * p)
    around g p = omega arith

-- Byte i written over: what was there goes, and what is there counts.
pub number_set : (l : List ℕ) (i v : ℕ) → i < length l → number (set l i v) + get_or l i 0 * 256 ^ i ≡ number l + v * 256 ^ i
unfolding number
number_set [] i v h = absurd (not-suc-le-zero h)
number_set (b ∷ l) zero v h = first b v (number l)
  where
    first : (b v n : ℕ) → v + 256 * n + b * 1 ≡ b + 256 * n + v * 1
    first b v n = omega arith
number_set (b ∷ l) (suc i) v h =
    ap (λ (z : ℕ). b + 256 * number (set l i v) + z) (moved (get_or l i 0) i)
    ∙ one_up b (number (set l i v)) (get_or l i 0 * 256 ^ i) (number l) (v * 256 ^ i) (number_set l i v (le_of_suc-le-suc h))
    ∙ sym (ap (λ (z : ℕ). b + 256 * number l + z) (moved v i))

-- ---- a turn of a sum

-- in plain numbers: the byte g and the rest, of which D is the lowest byte; A is written, and B carried
sum-plain : (N N' g A B C D P T v rest : ℕ) → v ≡ g + D → B * 256 + A ≡ v → C * 256 + D ≡ rest → N' + g * P ≡ N + A * P → N + rest * P ≡ T
    → N' + (C + B) * (256 * P) ≡ T
sum-plain N N' g A B C D P T v rest p q r s t = omega (arith, ap (λ (z : ℕ). z * P) p, ap (λ (z : ℕ). z * P) q, ap (λ (z : ℕ). z * P) r, s, t)

pub sum_turn : (l : List ℕ) (i rest T : ℕ) → i < length l → number l + rest * 256 ^ i ≡ T
    → let v = get_or l i 0 + rest % 256 in number (set l i (v % 256)) + (rest / 256 + v / 256) * 256 ^ (i + 1) ≡ T
sum_turn l i rest T h e =
    ap (λ (p : ℕ). number (set l i (v % 256)) + (rest / 256 + v / 256) * p) power
    ∙ sum-plain (number l) (number (set l i (v % 256))) (get_or l i 0) (v % 256) (v / 256) (rest / 256) (rest % 256) (256 ^ i) T v rest refl
    (div-add-mod' v 256) (div-add-mod' rest 256) (number_set l i (v % 256) h) e
  where
    v : ℕ
    v = get_or l i 0 + rest % 256

    power : 256 ^ (i + 1) ≡ 256 * 256 ^ i
    power = ap (λ (k : ℕ). 256 ^ k) (add-one i) ∙ pow-succ' 256 i

-- ---- a turn of a difference

-- in plain numbers: A is written, and 1 - B borrowed
rest_plain : (L N N' g A B C D P T v rest : ℕ) → v + D ≡ g + 256 → B * 256 + A ≡ v → C * 256 + D ≡ rest → B ≤ 1 → N' + g * P ≡ N + A * P → L + rest * P ≡ N + T
    → L + (C + (1 - B)) * (256 * P) ≡ N' + T
rest_plain L N N' g A B C D P T v rest p q r b s t =
    omega (arith, ap (λ (z : ℕ). z * P) p, ap (λ (z : ℕ). z * P) q, ap (λ (z : ℕ). z * P) r, ap (λ (z : ℕ). z * P) one, s, t)
  where
    one : B + (1 - B) ≡ 1
    one = omega (arith, b)

pub rest_turn : (l : List ℕ) (i rest L T : ℕ) → i < length l → get_or l i 0 < 256 → L + rest * 256 ^ i ≡ number l + T
    → let v = get_or l i 0 + (256 - rest % 256) in L + (rest / 256 + (1 - v / 256)) * 256 ^ (i + 1) ≡ number (set l i (v % 256)) + T
rest_turn l i rest L T h b e =
    ap (λ (p : ℕ). L + (rest / 256 + (1 - v / 256)) * p) power
    ∙ rest_plain L (number l) (number (set l i (v % 256))) (get_or l i 0) (v % 256) (v / 256) (rest / 256) (rest % 256) (256 ^ i) T v rest level
    (div-add-mod' v 256) (div-add-mod' rest 256) few (number_set l i (v % 256) h) e
  where
    v : ℕ
    v = get_or l i 0 + (256 - rest % 256)

    level : v + rest % 256 ≡ get_or l i 0 + 256
    level = omega arith

    few : v / 256 ≤ 1
    few = omega (arith, b)

    power : 256 ^ (i + 1) ≡ 256 * 256 ^ i
    power = ap (λ (k : ℕ). 256 ^ k) (add-one i) ∙ pow-succ' 256 i

-- ---- after the last turn, at number i

beyond : (rest i : ℕ) → 150 ≤ i → rest * 256 ^ i ≡ rest * 256 ^ (i - 150) * 256 ^ 150
beyond rest i h =
    ap (λ (k : ℕ). rest * 256 ^ k) split
    ∙ ap (λ (p : ℕ). rest * p) (pow-add 256 (i - 150) 150)
    ∙ sym (mul_assoc rest (256 ^ (i - 150)) (256 ^ 150))
  where
    split : i ≡ i - 150 + 150
    split = omega (arith, h)

pub added : (l : List ℕ) (at x : ℕ) (m : List ℕ) (i rest : ℕ) → length l ≡ 150 → length m ≡ 150 → 150 ≤ i → number m + rest * 256 ^ i ≡ number l + x * 256 ^ at
    → Added l at x m
added l at x m i rest p q e h = record {
  long = q ∙ sym p;
  lost = rest * 256 ^ (i - 150);
  sum = ap (λ (k : ℕ). number m + rest * 256 ^ (i - 150) * 256 ^ k) p ∙ sym (ap (λ (z : ℕ). number m + z) (beyond rest i e)) ∙ h;
}

pub taken : (l : List ℕ) (at x : ℕ) (m : List ℕ) (i rest : ℕ) → length l ≡ 150 → length m ≡ 150 → 150 ≤ i → number l + rest * 256 ^ i ≡ number m + x * 256 ^ at
    → Taken l at x m
taken l at x m i rest p q e h = record {
  long = q ∙ sym p;
  lost = rest * 256 ^ (i - 150);
  rest = ap (λ (k : ℕ). number l + rest * 256 ^ (i - 150) * 256 ^ k) p ∙ sym (ap (λ (z : ℕ). number l + z) (beyond rest i e)) ∙ h;
}

-- ---- the size of a double

-- so many bytes up, in binary
pow-bytes : (n : ℕ) → 256 ^ n ≡ 2 ^ (n * 8)
pow-bytes zero = refl
pow-bytes (suc n) =
    pow-succ' 256 n
    ∙ ap (λ (p : ℕ). 256 * p) (pow-bytes n)
    ∙ sym (pow-add 2 8 (n * 8))
    ∙ ap (λ (k : ℕ). 2 ^ k) (more n)
  where
    more : (n : ℕ) → 8 + n * 8 ≡ suc n * 8
    more n = omega arith

-- digits that are moved up by k: by so many bytes, and less than one more
placed : (m k : ℕ) → m * 2 ^ (k % 8) * 256 ^ (k / 8) ≡ m * 2 ^ k
placed m k =
    mul_assoc m (2 ^ (k % 8)) (256 ^ (k / 8))
    ∙ ap (λ (p : ℕ). m * (2 ^ (k % 8) * p)) (pow-bytes (k / 8))
    ∙ ap (λ (p : ℕ). m * p) (sym (pow-add 2 (k % 8) (k / 8 * 8)))
    ∙ ap (λ (j : ℕ). m * 2 ^ j) (whole k)
  where
    whole : (k : ℕ) → k % 8 + k / 8 * 8 ≡ k
    whole k = omega arith

size_at_lem : (b k x d : ℕ) → k ≡ shift_of b → x ≡ d * 2 ^ (k % 8) → d ≡ digits_of b → x * 256 ^ (k / 8) ≡ size_of b
size_at_lem b k x d e f g =
    ap (λ (z : ℕ). z * 256 ^ (k / 8)) f
    ∙ placed d k
    ∙ (λ i. g i * 2 ^ e i)

pub plus-size : (l m : List ℕ) (b k x : ℕ) {d : ℕ} → k ≡ shift_of b → x ≡ d * 2 ^ (k % 8) → d ≡ digits_of b → Added l (k / 8) x m → Plus l (size_of b) m
plus-size l m b k x {d} e f g a = record { long = a.long; lost = a.lost; sum = a.sum ∙ ap (λ (z : ℕ). number l + z) (size_at_lem b k x d e f g) }

pub less-size : (l m : List ℕ) (b k x : ℕ) {d : ℕ} → k ≡ shift_of b → x ≡ d * 2 ^ (k % 8) → d ≡ digits_of b → Taken l (k / 8) x m → Less l (size_of b) m
less-size l m b k x {d} e f g a = record { long = a.long; lost = a.lost; rest = a.rest ∙ ap (λ (z : ℕ). number m + z) (size_at_lem b k x d e f g) }

-- ---- sums that fit are exact

-- m is l with `up` more and `down` less, but for whole multiples of 256 ^ 150
pub record Net (l m : List ℕ) (up down : ℕ) : Type 0 where
  pub borrowed : ℕ
  pub carried : ℕ
  pub sum : number m + down + carried * 256 ^ 150 ≡ number l + up + borrowed * 256 ^ 150

plain-plus : (a b n p B : ℕ) → a + p * B ≡ b + n → a + 0 + p * B ≡ b + n + 0 * B
plain-plus a b n p B h = omega (arith, h)

plain-less : (a b n p B : ℕ) → b + p * B ≡ a + n → a + n + 0 * B ≡ b + 0 + p * B
plain-less a b n p B h = omega (arith, h)

pub plus_net : (l m : List ℕ) (n : ℕ) → length l ≡ 150 → Plus l n m → Net l m n 0
plus_net l m n e a = record {
  borrowed = 0;
  carried = a.lost;
  sum = plain-plus (number m) (number l) n a.lost (256 ^ 150) (ap (λ (k : ℕ). number m + a.lost * 256 ^ k) (sym e) ∙ a.sum);
}

pub less_net : (l m : List ℕ) (n : ℕ) → length l ≡ 150 → Less l n m → Net l m 0 n
less_net l m n e a = record {
  borrowed = a.lost;
  carried = 0;
  sum = plain-less (number m) (number l) n a.lost (256 ^ 150) (ap (λ (k : ℕ). number l + a.lost * 256 ^ k) (sym e) ∙ a.rest);
}

plain-both : (a b c u v d f p q r t B : ℕ) → b + d + p * B ≡ a + u + q * B → c + f + r * B ≡ b + v + t * B → c + (d + f) + (p + r) * B ≡ a + (u + v) + (q + t) * B
plain-both a b c u v d f p q r t B h g = omega (arith, h, g)

pub both_nets : (l k m : List ℕ) (u v d f : ℕ) → Net l k u d → Net k m v f → Net l m (u + v) (d + f)
both_nets l k m u v d f x y = record {
  borrowed = x.borrowed + y.borrowed;
  carried = x.carried + y.carried;
  sum = plain-both (number l) (number k) (number m) u v d f x.carried x.borrowed y.carried y.borrowed (256 ^ 150) x.sum y.sum;
}

-- two numbers below B that differ by a multiple of it are one
one_below : (a b p q B : ℕ) → a < B → b < B → a + p * B ≡ b + q * B → a ≡ b
one_below a b zero zero B h g e = omega (arith, e)
one_below a b zero (suc q) B h g e = absurd (omega (arith, h, e))
one_below a b (suc p) zero B h g e = absurd (omega (arith, g, e))
one_below a b (suc p) (suc q) B h g e = one_below a b p q B h g (omega (arith, e))

plain-exact : (a b u d p q B : ℕ) → d ≤ u → a + d + p * B ≡ b + u + q * B → a + p * B ≡ b + (u - d) + q * B
plain-exact a b u d p q B h e = omega (arith, h, e)

-- What fits is exact: no more is taken away than is added, and the sum stays below 2 ^ 1200.
pub exact : (l m : List ℕ) (up down : ℕ) → Net l m up down → number m < 256 ^ 150 → down ≤ up → number l + up < 256 ^ 150 → number m + down ≡ number l + up
exact l m up down n h g f =
    let same = one_below (number m) (number l + (up - down)) n.carried n.borrowed (256 ^ 150) h (less (number l) up down (256 ^ 150) f) (plain-exact (number m) (number l) up down n.carried n.borrowed (256 ^ 150) g n.sum) in
    back (number m) (number l) up down g same
  where
    less : (b u d B : ℕ) → b + u < B → b + (u - d) < B
    less b u d B h = omega (arith, h)

    back : (a b u d : ℕ) → d ≤ u → a ≡ b + (u - d) → a + d ≡ b + u
    back a b u d h e = omega (arith, h, e)

-- the number of n bytes is below 256 ^ n
pub number_below : (l : List ℕ) → AllBytes l → number l < 256 ^ length l
unfolding number
number_below [] h = omega arith
number_below (b ∷ l) h = subst (λ (p : ℕ). b + 256 * number l < p) (sym (pow-succ' 256 (length l))) (step b (number l) (256 ^ length l) (h 0 (omega arith)) (number_below l (λ i k. h (suc i) (omega (arith, k)))))
  where
    step : (b n p : ℕ) → b < 256 → n < p → b + 256 * n < 256 * p
    step b n p h g = omega (arith, h, g)

-- the number of nothing but zeros
pub number_zeros : (n : ℕ) → number (replicate n 0) ≡ 0
unfolding number
number_zeros zero = refl
number_zeros (suc n) = ap (λ (z : ℕ). 0 + 256 * z) (number_zeros n)
