-- Intervals of doubles that are the same bound by bound, and above zero: they are one interval. Assumes nothing.
use mathlib.Core.Path.{◌≡◌, refl}
use mathlib.Core.Bool.{Bool, true, false, ◌&&◌}
use Prim.Native.Nat.{ℕ, ◌*◌, ◌<◌}
use native.Mathlib.Nat.{mul-pos}
use native.Mathlib.Omega.{arith}
use lib.Dec.{T, eqb, eqb→eq, ltb→lt}
use lib.Ieee.{Float, nan, inf, fin, binary64, up, down, lt, eq, fits}
use lib.Ieee.Fits.{down_pos}
use Rattle.math.specs.declared.scalars.Scalar.{Scalar}
use Rattle.math.specs.Scalars.{zero_f, is_same}
use Rattle.math.proofs.Bools.{yes, and_l, and_r}
use Rattle.math.proofs.Laws.{unique}

-- two doubles that are equal and above zero are one
same_above : (x y : Float) → T (fits binary64 x) → T (fits binary64 y) → T (eq x y) → T (lt zero_f x) → x ≡ y
unfolding eq lt
same_above nan y F G e h = absurd e
same_above (inf true) y F G e h = absurd h
same_above (inf false) nan F G e h = absurd e
same_above (inf false) (inf true) F G e h = absurd e
same_above (inf false) (inf false) F G e h = refl
same_above (inf false) (fin t n d) F G e h = absurd e
same_above (fin true m k) y F G e h = absurd h
same_above (fin false m k) nan F G e h = absurd e
same_above (fin false m k) (inf t) F G e h = absurd e
same_above (fin false m k) (fin false n d) F G e h = unique binary64 false m k n d F G (eqb→eq (m * up k * down d) (n * up d * down k) (and_l (eqb (m * up k * down d) (n * up d * down k)) _ e))
same_above (fin false m k) (fin true n d) F G e h = absurd (clash (m * up k) (down d) (down_pos d) (ltb→lt _ _ h) (eqb→eq (m * up k * down d) 0 (and_r (eqb (m * up k * down d) (n * up d * down k)) _ e)))
  where
    clash : (a c : ℕ) → 0 < c → 0 * 1 * down k < a * 1 → a * c ≡ 0 → ⊥
    clash a c g h e = let q : 0 < a * c = mul-pos (omega arith) g in omega arith

module _ (a b : Scalar) where
  pub repeats_one : T (fits binary64 a.lo) → T (fits binary64 a.hi) → T (fits binary64 b.lo) → T (fits binary64 b.hi) → eq a.lo b.lo ≡ true → eq a.hi b.hi ≡ true
      → lt zero_f a.lo && lt zero_f a.hi ≡ true → a ≡ b
  repeats_one A B C D e f h =
      let t : T (lt zero_f a.lo && lt zero_f a.hi) = yes (lt zero_f a.lo && lt zero_f a.hi) h in
      let l : a.lo ≡ b.lo = same_above a.lo b.lo A C (yes (eq a.lo b.lo) e) (and_l (lt zero_f a.lo) (lt zero_f a.hi) t) in
      let r : a.hi ≡ b.hi = same_above a.hi b.hi B D (yes (eq a.hi b.hi) f) (and_r (lt zero_f a.lo) (lt zero_f a.hi) t) in
      λ i. record { lo = l i; hi = r i }

  pub repeats-yes : (r p : Bool) → eq a.lo b.lo ≡ true → eq a.hi b.hi ≡ true → r ≡ p → r ≡ (is_same a b && p)
  repeats-yes r p e f R = rw (e, f) R
