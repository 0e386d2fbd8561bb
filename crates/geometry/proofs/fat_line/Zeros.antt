-- Laws of the abscissae and of the zeros by a fat line, over plain values: what the turns of their loops keep, and what each answer is. Assumes nothing.
use mathlib.Core.Path.{◌≡◌, refl, sym, ap, ◌∙◌}
use mathlib.Core.Bool.{Bool, true, false}
use mathlib.Core.List.{List, ◌++◌, map, zip_with}
use lib.Seq.{take-append-le, take-length}
use mathlib.Core.Option.{some, none}
use Prim.Native.Nat.{ℕ, zero, suc, ◌+◌, ◌-◌, ◌^◌, ◌≤◌, ◌<◌}
use native.Mathlib.Omega.{arith}
use lib.Dec.{T, le→leb}
use lib.ListN.{length, take, drop, get_or, replicate, length-replicate}
use lib.IntN.{pos}
use lib.Ieee.{Float, nan, binary64, of_int, in_float}
use Rattle.lists.specs.Lists.{put, tab, last_d}
use Rattle.lists.proofs.Tab.{length-tab, tab-whole, get_or-tab, map-tab, zip_with-tab}
use Rattle.lists.proofs.Put.{put_whole, length-put}
use Rattle.lists.proofs.Fold.{foldl_turn, foldl_done}
use Rattle.math.specs.declared.scalars.Scalar.{Scalar}
use Rattle.math.specs.Divided.{Divided}
use Rattle.std.specs.Prelude.{Some, None}
use Rattle.math.specs.declared.bounds.Bounds.{Bounds}
use Rattle.math.specs.declared.bounds.Divisor.{Divisor}
use Rattle.math.specs.Scalars.{Arithmetic, sharp, absent, ZERO, could_be_equal, union_s}
use Rattle.math.proofs.Bools.{pick_yes, pick_no}
use Rattle.model.specs.Aabb.{unions}
use Rattle.model.specs.FatLine.{window, abscissa, greville, offset, crossing, zeros_by, fat_line_zeros}
use Rattle.geometry.specs.Abscissae.{summed, mean_over, held}
use Rattle.geometry.specs.Zeros.{from_first, chord_at, off_run, level_zeros, sloped_zeros}
use Rattle.model.specs.Hat.{Hat}
use Rattle.geometry.specs.Held.{Abscissae}
use Rattle.geometry.proofs.aabb.Unions.{Gives}

-- ---- answers that are none or some

some_none : (x : List Scalar) → ◌≡◌ {A = Abscissae} (Some x) None → ⊥
some_none x e = cc

some_one : (x y : List Scalar) → ◌≡◌ {A = Abscissae} (Some x) (Some y) → x ≡ y
some_one x y e = ap (of x) e
  where
    of : List Scalar → Abscissae → List Scalar
    of d (Some z) = z
    of d None = d

-- ---- the front of a list that was written to

front : (l vs : List Scalar) (n : ℕ) → length vs ≡ n → take n (put l 0 vs) ≡ vs
unfolding put
front l vs n e =
    ap (λ (m : ℕ). take m (vs ++ drop (0 + length vs) l)) (sym e) ∙ take-append-le (length vs) vs (drop (0 + length vs) l) (omega arith) ∙ take-length vs

-- ---- the mean of a window

-- the sum that the turns keep: what was summed, and what is left of the window
pub sum_turn : (ar : Arithmetic) (w : List Float) (s t v : Scalar) (j : ℕ) → j < length w → v ≡ sharp (get_or w j nan) → t ≡ ar.add s v
    → summed ar s (drop j w) ≡ summed ar ZERO w → summed ar t (drop (j + 1) w) ≡ summed ar ZERO w
sum_turn ar w s t v j h e g inv = ap (λ (k : Scalar). summed ar k (drop (j + 1) w)) (g ∙ ap (ar.add s) e) ∙ foldl_turn (λ s u. ar.add s (sharp u)) s w j nan h ∙ inv

pub sum_done : (ar : Arithmetic) (w : List Float) (s : Scalar) (j : ℕ) → length w ≤ j → summed ar s (drop j w) ≡ summed ar ZERO w → s ≡ summed ar ZERO w
sum_done ar w s j h inv = sym (foldl_done (λ s u. ar.add s (sharp u)) s w j h) ∙ inv

-- a degree is a double
pub in_float_degree : (p : ℕ) → p ≤ 7 → T (in_float binary64 (pos p))
unfolding in_float
in_float_degree p h = le→leb p (2 ^ 53) (omega arith)

-- over the degree it is the abscissa
pub mean_is : (ar : Arithmetic) (p : ℕ) (w : List Float) (n r : Scalar) (d : Divisor) → n ≡ sharp (of_int binary64 (pos p)) → d.value ≡ n → r ≡ mean_over ar w d.value → r ≡ abscissa ar p w
unfolding abscissa mean_over
mean_is ar p w n r d N D R = R ∙ ap (mean_over ar w) (D ∙ N)

-- ---- the abscissae in their array

pub held_none : (ar : Arithmetic) (p n : ℕ) (knots : List Float) → p ≡ 0 → ◌≡◌ {A = Abscissae} None (held (greville ar p n knots))
unfolding held greville
held_none ar p n knots e = rw e

pub held_some : (ar : Arithmetic) (p n i : ℕ) (knots : List Float) (xi : List Scalar) → (p ≡ 0 → ⊥) → i ≡ n → xi ≡ put (replicate 32 ZERO) 0 (tab i (λ j. abscissa ar p (window p knots j)))
    → ◌≡◌ {A = Abscissae} (Some xi) (held (greville ar p n knots))
unfolding held greville
held_some ar zero n i knots xi h e inv = absurd (h refl)
held_some ar (suc p) n i knots xi h e inv =
    ap (λ (l : List Scalar). given l) inv
    ∙ ap (λ (m : ℕ). held (some (tab m (λ j. abscissa ar (suc p) (window (suc p) knots j))))) e
  where
    given : List Scalar → Abscissae
    given l = Some l

-- degree 0 has none, and it alone
pub none_degree : (ar : Arithmetic) (p n : ℕ) (knots : List Float) (r : Abscissae) → r ≡ held (greville ar p n knots) → r ≡ None → greville ar p n knots ≡ none
unfolding held greville
none_degree ar zero n knots r e h = refl
none_degree ar (suc p) n knots r e h = absurd (some_none _ (sym e ∙ h))

-- Where there are some, they stand at the front of the array.
pub some_greville : (ar : Arithmetic) (p n : ℕ) (knots : List Float) (r : Abscissae) (xi : List Scalar) → n ≤ 32 → r ≡ held (greville ar p n knots) → r ≡ Some xi
    → (greville ar p n knots ≡ some (take n xi)) × (length xi ≡ 32) × (1 ≤ p)
unfolding held greville
some_greville ar zero n knots r xi h e g = absurd (some_none xi (sym g ∙ e))
some_greville ar (suc p) n knots r xi h e g =
    let xs : List Scalar = tab n (λ i. abscissa ar (suc p) (window (suc p) knots i)) in
    let is : put (replicate 32 ZERO) 0 xs ≡ xi = some_one _ _ (sym e ∙ g) in (
      ap (λ (l : List Scalar). some l) (sym (ap (take n) (sym is) ∙ front (replicate 32 ZERO) xs n (length-tab n _))),
      ap length (sym is) ∙ length-put (replicate 32 ZERO) 0 xs (rw (length-tab n (λ i. abscissa ar (suc p) (window (suc p) knots i)), length-replicate 32 ZERO) (omega (arith, h))) ∙ length-replicate 32 ZERO,
      omega arith,
    )

-- ---- how far each abscissa lies from the first

-- How far abscissa j lies from the first.
abbrev pub from_first_at : Arithmetic → List Scalar → ℕ → Scalar
from_first_at ar xi j = ar.sub (get_or xi j absent) (get_or xi 0 absent)

from_first_tab : (ar : Arithmetic) (xi : List Scalar) → from_first ar xi ≡ tab (length xi) (from_first_at ar xi)
unfolding from_first
from_first_tab ar xi =
    ap (map (λ x. ar.sub x (get_or xi 0 absent))) (sym (tab-whole xi absent))
    ∙ map-tab (λ x. ar.sub x (get_or xi 0 absent)) (length xi) (λ j. get_or xi j absent)

pub from_first_done : (ar : Arithmetic) (xi l dx : List Scalar) (i : ℕ) → length l ≡ length xi → i ≡ length xi → dx ≡ put l 0 (tab i (from_first_at ar xi)) → dx ≡ from_first ar xi
from_first_done ar xi l dx i h e D =
    D
    ∙ ap (λ (m : ℕ). put l 0 (tab m (from_first_at ar xi))) e
    ∙ put_whole l (tab (length xi) (from_first_at ar xi)) (length-tab (length xi) (from_first_at ar xi) ∙ sym h)
    ∙ sym (from_first_tab ar xi)

pub from_first_long : (ar : Arithmetic) (xi : List Scalar) → length (from_first ar xi) ≡ length xi
from_first_long ar xi = ap length (from_first_tab ar xi) ∙ length-tab (length xi) (from_first_at ar xi)

-- ---- the band

-- The offset of point i of the polygon.
abbrev pub off : Arithmetic → Scalar → Scalar → List Scalar → List Scalar → ℕ → Scalar
off ar slope y0 dx d i = off_run ar slope y0 (get_or dx i absent) (get_or d i absent)

off_tab : (ar : Arithmetic) (slope y0 : Scalar) (dx d : List Scalar) → length dx ≡ length d → zip_with (λ x y. off_run ar slope y0 x y) dx d ≡ tab (length d) (off ar slope y0 dx d)
off_tab ar slope y0 dx d h =
    (λ i. zip_with (λ x y. off_run ar slope y0 x y) (sym (ap (λ (n : ℕ). tab n (λ j. get_or dx j absent)) (sym h) ∙ tab-whole dx absent) i) (sym (tab-whole d absent) i))
    ∙ zip_with-tab (λ x y. off_run ar slope y0 x y) (length d) (λ j. get_or dx j absent) (λ j. get_or d j absent)

-- what a loop over all points has at its end
pub band_done : (ar : Arithmetic) (slope y0 : Scalar) (dx d : List Scalar) (i : ℕ) (r x : Scalar) → length dx ≡ length d → i ≡ length d → x ≡ unions (tab i (off ar slope y0 dx d)) → r ≡ x
    → r ≡ unions (zip_with (λ x y. off_run ar slope y0 x y) dx d)
band_done ar slope y0 dx d i r x l e h g =
    g ∙ h ∙ ap (λ (m : ℕ). unions (tab m (off ar slope y0 dx d))) e ∙ ap unions (sym (off_tab ar slope y0 dx d l))

-- the offset of a point by bounds: its value less the chord c at it, closed
pub off_by_bounds : (Kind : Bounds → Type 0) (close : Bounds → Scalar) (ar : Arithmetic) (slope y0 : Scalar) (dx d : List Scalar) (i : ℕ) (c : Scalar) (b : Bounds) → c ≡ chord_at ar slope y0 (get_or dx i absent)
    → Kind b × (close b ≡ ar.sub (get_or d i absent) c) → Gives Kind close (off ar slope y0 dx d i) b
off_by_bounds Kind close ar slope y0 dx d i c b C B = record { kind = B.0; is = B.1 ∙ ap (ar.sub (get_or d i absent)) C }

-- ---- the zeros

-- the tests, with what they are made on
module _ (ar : Arithmetic) (slope x0 y0 last band u b : Scalar) (t : Bool) (U : u ≡ union_s y0 last) (B : b ≡ ar.add u band) (E : t ≡ could_be_equal b ZERO) where
  reaches : t ≡ could_be_equal (ar.add (union_s y0 last) band) ZERO
  reaches = E ∙ ap (λ (v : Scalar). could_be_equal v ZERO) (B ∙ ap (λ (v : Scalar). ar.add v band) U)

  pub sloped_yes : (s : Scalar) (q : Divided) (r : Hat) → s ≡ ar.add y0 band → q ≡ ar.div s slope → r ≡ crossing ar x0 q → t ≡ true
      → r ≡ sloped_zeros ar slope x0 y0 last band
  sloped_yes s q r S Q R e = R ∙ ap (crossing ar x0) (Q ∙ ap (λ (v : Scalar). ar.div v slope) S) ∙ pick_yes _ _ _ (sym reaches ∙ e)

  pub sloped_no : t ≡ false → None ≡ sloped_zeros ar slope x0 y0 last band
  sloped_no e = pick_no _ _ _ (sym reaches ∙ e)

module _ (ar : Arithmetic) (ξ dx ds : List Scalar) (rise : Scalar) (q : Divided) (h : 0 < length ds) (L : length ξ ≡ length ds) (D : dx ≡ from_first ar ξ)
    (S : rise ≡ ar.sub (last_d ds absent) (get_or ds 0 absent)) (Q : q ≡ ar.div rise (get_or dx (length ds - 1) absent)) where
  abbrev pub x0 : Scalar
  x0 = get_or ξ 0 absent

  abbrev pub y0 : Scalar
  y0 = get_or ds 0 absent

  run_is : ar.sub (last_d ξ absent) (get_or ξ 0 absent) ≡ get_or dx (length ds - 1) absent
  run_is =
      sym (get_or-tab (length ξ) (from_first_at ar ξ) (length ξ - 1) absent (omega (arith, L, h)))
      ∙ (λ i. get_or ((sym (D ∙ from_first_tab ar ξ)) i) (L i - 1) absent)

  slope_is : ar.div (ar.sub (last_d ds absent) (get_or ds 0 absent)) (ar.sub (last_d ξ absent) (get_or ξ 0 absent)) ≡ q
  slope_is = ap (ar.div (ar.sub (last_d ds absent) (get_or ds 0 absent))) run_is ∙ sym (Q ∙ ap (λ (v : Scalar). ar.div v (get_or dx (length ds - 1) absent)) S)

  -- the offsets, over how far they lie
  offsets_are : (slope : Scalar) → zip_with (λ x y. off_run ar slope y0 x y) dx ds ≡ zip_with (λ x y. offset ar slope x0 y0 x y) ξ ds
  unfolding zip_with
  offsets_are slope =
      let n = length ds in
      let whole : tab n (λ j. get_or ds j absent) ≡ ds = tab-whole ds absent in
      let front : tab n (λ j. get_or ξ j absent) ≡ ξ = ap (λ (m : ℕ). tab m (λ j. get_or ξ j absent)) (sym L) ∙ tab-whole ξ absent in
      let runs : dx ≡ tab n (from_first_at ar ξ) = D ∙ from_first_tab ar ξ ∙ ap (λ (m : ℕ). tab m (from_first_at ar ξ)) L in
      (λ i. zip_with (λ x y. off_run ar slope y0 x y) (runs i) (sym whole i))
      ∙ zip_with-tab (λ x y. off_run ar slope y0 x y) n (from_first_at ar ξ) (λ j. get_or ds j absent)
      ∙ sym (zip_with-tab (λ x y. offset ar slope x0 y0 x y) n (λ j. get_or ξ j absent) (λ j. get_or ds j absent))
      ∙ (λ i. zip_with (λ x y. offset ar slope x0 y0 x y) (front i) (whole i))

  zeros-are : zeros_by ar ξ ds x0 y0 q ≡ fat_line_zeros ar ξ ds
  unfolding fat_line_zeros
  zeros-are = λ i. zeros_by ar ξ ds x0 y0 (sym slope_is i)

  -- no slope
  pub zeros-level : (u : Scalar) (r : Hat) → q ≡ None → u ≡ unions ds → r ≡ level_zeros u → r ≡ fat_line_zeros ar ξ ds
  unfolding zeros_by
  zeros-level u r e U f = f ∙ ap (λ (v : Scalar). level_zeros v) U ∙ sym (ap (zeros_by ar ξ ds x0 y0) e) ∙ zeros-are

  -- a slope
  pub zeros_sloped : (slope band : Scalar) (r : Hat) → q ≡ Some slope → band ≡ unions (zip_with (λ x y. off_run ar slope y0 x y) dx ds)
      → r ≡ sloped_zeros ar slope x0 y0 (last_d ds absent) band → r ≡ fat_line_zeros ar ξ ds
  unfolding zeros_by
  zeros_sloped slope band r e B f =
      f
      ∙ ap (sloped_zeros ar slope x0 y0 (last_d ds absent)) (B ∙ ap unions (offsets_are slope))
      ∙ sym (ap (zeros_by ar ξ ds x0 y0) e)
      ∙ zeros-are
