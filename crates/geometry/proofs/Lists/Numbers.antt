-- Points as numbers side by side: what the numbers of some intervals and of some points are, and what is read from them. Leans on the laws of lists.
use mathlib.Core.Path.{◌≡◌, refl, sym, ap, ◌∙◌}
use mathlib.Core.List.{List, [], ◌∷◌, ◌++◌, append_assoc, append-nil}
use Prim.Native.Nat.{ℕ, zero, suc, ◌+◌, ◌*◌, ◌-◌, ◌≤◌, ◌<◌}
use native.Mathlib.Nat.{mul-add, mul-suc, mul-zero, mul_assoc, zero-add}
use native.Mathlib.Numerals.{add-one}
use native.Mathlib.Omega.{arith}
use lib.ListN.{length, take, drop, get_or, length-append}
use lib.Seq.{get_or-drop, get_or-take, drop-drop, drop_at}
use lib.Ieee.{Float, nan}
use Rattle.lists.specs.Lists.{part, put, tab}
use Rattle.lists.proofs.Tab.{length-tab, tab-ext, tab-cons, get_or-tab, take-tab, drop-tab}
use Rattle.lists.proofs.Part.{part-snoc, part-add}
use Rattle.math.specs.declared.scalars.Scalar.{Scalar}
use Rattle.model.specs.Vector.{Vector}
use Rattle.model.specs.NurbCurve.{point}
use Rattle.model.specs.Layout.{scalar_at, scalars_of, flat, point_at, points_of}
use Rattle.geometry.specs.Slots.{scalar_from, vector_at, numbers, Wide}
use Rattle.geometry.proofs.Lists.Copies.{drop-written}

-- ---- the numbers of some intervals

pub flat_append : (xs ys : List Scalar) → flat (xs ++ ys) ≡ flat xs ++ flat ys
unfolding flat
flat_append [] ys = refl
flat_append (x ∷ xs) ys = ap (λ (r : List Float). x.lo ∷ x.hi ∷ r) (flat_append xs ys)

pub length-flat : (xs : List Scalar) → length (flat xs) ≡ 2 * length xs
unfolding flat
length-flat [] = refl
length-flat (x ∷ xs) = let e : length (flat xs) ≡ 2 * length xs = length-flat xs in omega arith

pub flat_one : (x : Scalar) → flat (x ∷ []) ≡ x.lo ∷ x.hi ∷ []
unfolding flat
flat_one x = refl

-- one more
pub flat-snoc : (n : ℕ) (f : ℕ → Scalar) → flat (tab (n + 1) f) ≡ flat (tab n f) ++ ((f n).lo ∷ (f n).hi ∷ [])
unfolding flat
flat-snoc n f = rw (add-one n) (flat_append (tab n f) (f n ∷ []))

-- ---- the numbers of some points

pub numbers_nil : numbers [] ≡ []
unfolding numbers
numbers_nil = refl

pub numbers_one : (q : Vector) → numbers (q ∷ []) ≡ flat q
unfolding numbers
numbers_one q = append-nil (flat q)

pub numbers_cons : (q : Vector) (qs : List Vector) → numbers (q ∷ qs) ≡ flat q ++ numbers qs
unfolding numbers
numbers_cons q qs = refl

pub numbers_append : (xs ys : List Vector) → numbers (xs ++ ys) ≡ numbers xs ++ numbers ys
unfolding numbers
numbers_append [] ys = refl
numbers_append (x ∷ xs) ys = rw (numbers_append xs ys, append_assoc (flat x) (numbers xs) (numbers ys))

pub wide-tail : (D : ℕ) (q : Vector) (qs : List Vector) → Wide D (q ∷ qs) → Wide D qs
wide-tail D q qs h i k = h (suc i) (omega arith)

pub length_numbers : (D : ℕ) (qs : List Vector) → Wide D qs → length (numbers qs) ≡ 2 * D * length qs
unfolding numbers
length_numbers D [] h = sym (mul-zero (2 * D))
length_numbers D (q ∷ qs) h =
    let e : length q ≡ D = h 0 (omega arith) in
    rw (length-append (flat q) (numbers qs), length-flat q, e, length_numbers D qs (wide-tail D q qs h), mul-suc (2 * D) (length qs)) (omega arith)

-- ---- what is read

-- the interval number k from index a on
pub scalar-drop : (l : List Float) (a k : ℕ) → scalar_at (drop a l) k ≡ scalar_from l (a + 2 * k)
scalar-drop l a k =
    let e : a + (2 * k + 1) ≡ a + 2 * k + 1 = omega arith in
    λ i. record { lo = get_or-drop a l (2 * k) nan i; hi = (get_or-drop a l (2 * k + 1) nan ∙ ap (λ (m : ℕ). get_or l m nan) e) i }

pub vector_tab : (D : ℕ) (l : List Float) (a : ℕ) → vector_at D l a ≡ tab D (λ k. scalar_from l (a + 2 * k))
unfolding vector_at
vector_tab D l a = tab-ext D (λ k. scalar_at (drop a l) k) (λ k. scalar_from l (a + 2 * k)) (λ k h. scalar-drop l a k)

pub length_vector : (D : ℕ) (l : List Float) (a : ℕ) → length (vector_at D l a) ≡ D
unfolding vector_at
length_vector D l a = length-tab D (λ k. scalar_at (drop a l) k)

-- two lists with the same elements there have the same point there
pub vector_same : (D : ℕ) (l m : List Float) (a : ℕ) → ((i : ℕ) → i < 2 * D → get_or l (a + i) nan ≡ get_or m (a + i) nan) → vector_at D l a ≡ vector_at D m a
vector_same D l m a h = vector_tab D l a ∙ tab-ext D _ _ each ∙ sym (vector_tab D m a)
  where
    each : (k : ℕ) → k < D → scalar_from l (a + 2 * k) ≡ scalar_from m (a + 2 * k)
    each k g =
        let e : a + (2 * k + 1) ≡ a + 2 * k + 1 = omega arith in
        λ i. record { lo = h (2 * k) (omega arith) i; hi = (ap (λ (n : ℕ). get_or l n nan) (sym e) ∙ h (2 * k + 1) (omega arith) ∙ ap (λ (n : ℕ). get_or m n nan) e) i }

-- the point lies behind the front of a list
pub vector_drop : (D : ℕ) (l : List Float) (a b : ℕ) → vector_at D (drop a l) b ≡ vector_at D l (a + b)
unfolding vector_at
vector_drop D l a b = ap (scalars_of D) (drop-drop b a l)

-- the point lies in a part of the list
pub vector_part : (D : ℕ) (l : List Float) (a w b : ℕ) → b + 2 * D ≤ w → vector_at D (part l a w) b ≡ vector_at D l (a + b)
vector_part D l a w b h =
    vector_same D (part l a w) (drop a l) b (λ i k. get_or-take w (drop a l) (b + i) nan (omega arith)) ∙ vector_drop D l a b

-- the numbers of a point are those that stand there
pub flat_vector : (D : ℕ) (l : List Float) (a : ℕ) → a + 2 * D ≤ length l → flat (vector_at D l a) ≡ part l a (2 * D)
flat_vector D l a h = rw (vector_tab D l a) (go D h)
  where
    go : (n : ℕ) → a + 2 * n ≤ length l → flat (tab n (λ k. scalar_from l (a + 2 * k))) ≡ part l a (2 * n)
    go zero g = unfold flat in refl
    go (suc n) g =
        let x : Float = get_or l (a + 2 * n) nan in
        let y : Float = get_or l (a + 2 * n + 1) nan in
        let e : 2 * suc n ≡ suc (suc (2 * n)) = omega arith in
        let f : a + suc (2 * n) ≡ a + 2 * n + 1 = omega arith in
        flat_append (tab n (λ k. scalar_from l (a + 2 * k))) (scalar_from l (a + 2 * n) ∷ [])
        ∙ ap (λ (r : List Float). r ++ flat (scalar_from l (a + 2 * n) ∷ [])) (go n (omega arith))
        ∙ ap (λ (r : List Float). part l a (2 * n) ++ r) (flat_one (scalar_from l (a + 2 * n)))
        ∙ sym (ap (part l a) e ∙ part-snoc l a (suc (2 * n)) nan (omega arith)
        ∙ ap (λ (r : List Float). r ++ (get_or l (a + suc (2 * n)) nan ∷ [])) (part-snoc l a (2 * n) nan (omega arith))
        ∙ append_assoc (part l a (2 * n)) (x ∷ []) (get_or l (a + suc (2 * n)) nan ∷ [])
        ∙ ap (λ (m : ℕ). part l a (2 * n) ++ (x ∷ get_or l m nan ∷ [])) f)

-- the point behind a list that begins with its numbers
pub vector_flat : (q : Vector) (r : List Float) (D : ℕ) → length q ≡ D → vector_at D (flat q ++ r) 0 ≡ q
unfolding flat vector_at
vector_flat [] r zero e = refl
vector_flat [] r (suc n) e = absurd (omega arith)
vector_flat (x ∷ q) r zero e = absurd (omega arith)
vector_flat (x ∷ q) r (suc n) e =
    tab-cons n (λ k. scalar_at (x.lo ∷ x.hi ∷ (flat q ++ r)) k)
    ∙ ap (λ (s : List Scalar). x ∷ s) (tab-ext n _ _ (λ k h. behind k) ∙ vector_flat q r n (omega arith))
  where
    behind : (k : ℕ) → scalar_at (x.lo ∷ x.hi ∷ (flat q ++ r)) (suc k) ≡ scalar_at (flat q ++ r) k
    behind k =
        let e : 2 * suc k ≡ suc (suc (2 * k)) = omega arith in
        let f : 2 * suc k + 1 ≡ suc (suc (2 * k + 1)) = omega arith in
        λ i. record { lo = get_or (x.lo ∷ x.hi ∷ (flat q ++ r)) (e i) nan; hi = get_or (x.lo ∷ x.hi ∷ (flat q ++ r)) (f i) nan }

-- ---- points one behind the other

pub point_vector : (D : ℕ) (l : List Float) (i : ℕ) → point_at D l i ≡ vector_at D l (2 * D * i)
unfolding point_at
point_vector D l i = tab-ext D _ _ (λ k h. each k) ∙ sym (vector_tab D l (2 * D * i))
  where
    each : (k : ℕ) → scalar_at l (D * i + k) ≡ scalar_from l (2 * D * i + 2 * k)
    each k =
        let e : 2 * (D * i + k) ≡ 2 * D * i + 2 * k = rw (mul_assoc 2 D i) (omega arith) in
        λ j. scalar_from l (e j)

-- the first n points from index a on
pub points-tab : (D n : ℕ) (l : List Float) (a : ℕ) → points_of D n (drop a l) ≡ tab n (λ i. vector_at D l (a + 2 * D * i))
unfolding points_of
points-tab D n l a = tab-ext n _ _ (λ i h. point_vector D (drop a l) i ∙ vector_drop D l a (2 * D * i))

pub length-points : (D n : ℕ) (l : List Float) → length (points_of D n l) ≡ n
unfolding points_of
length-points D n l = length-tab n (λ i. point_at D l i)

pub wide-points : (D n : ℕ) (l : List Float) → Wide D (points_of D n l)
unfolding points_of
wide-points D n l i h =
    let k : i < n = rw (length-tab n (λ j. point_at D l j)) at h in
    rw (get_or-tab n (λ j. point_at D l j) i [] k) (unfold point_at in length-tab D (λ j. scalar_at l (D * i + j)))

-- the numbers of the points are those that stand there
pub numbers_points : (D n : ℕ) (l : List Float) (a : ℕ) → a + 2 * D * n ≤ length l → numbers (points_of D n (drop a l)) ≡ part l a (2 * D * n)
numbers_points D n l a h = ap numbers (points-tab D n l a) ∙ go n h
  where
    go : (n : ℕ) → a + 2 * D * n ≤ length l → numbers (tab n (λ i. vector_at D l (a + 2 * D * i))) ≡ part l a (2 * D * n)
    go zero g = numbers_nil ∙ ap (part l a) (sym (mul-zero (2 * D)))
    go (suc n) g =
        let e : 2 * D * suc n ≡ 2 * D * n + 2 * D = mul-suc (2 * D) n in
        numbers_append (tab n (λ i. vector_at D l (a + 2 * D * i))) (vector_at D l (a + 2 * D * n) ∷ [])
        ∙ ap (λ (r : List Float). r ++ numbers (vector_at D l (a + 2 * D * n) ∷ [])) (go n (omega arith))
        ∙ ap (λ (r : List Float). part l a (2 * D * n) ++ r) (numbers_one (vector_at D l (a + 2 * D * n)) ∙ flat_vector D l (a + 2 * D * n) (omega arith))
        ∙ sym (ap (part l a) e ∙ part-add l a (2 * D * n) (2 * D))

-- points are read back from their numbers
pub points_numbers : (D : ℕ) (qs : List Vector) (r : List Float) → Wide D qs → points_of D (length qs) (numbers qs ++ r) ≡ qs
points_numbers D qs r h = points-tab D (length qs) (numbers qs ++ r) 0 ∙ go qs h
  where
    go : (qs : List Vector) → Wide D qs → tab (length qs) (λ i. vector_at D (numbers qs ++ r) (0 + 2 * D * i)) ≡ qs
    go [] w = refl
    go (q ∷ qs) w =
        let m : List Float = flat q ++ (numbers qs ++ r) in
        let e : length q ≡ D = w 0 (omega arith) in
        let same : numbers (q ∷ qs) ++ r ≡ m = ap (λ (k : List Float). k ++ r) (numbers_cons q qs) ∙ append_assoc (flat q) (numbers qs) r in
        ap (λ (k : List Float). tab (suc (length qs)) (λ i. vector_at D k (0 + 2 * D * i))) same
        ∙ tab-cons (length qs) (λ i. vector_at D m (0 + 2 * D * i))
        ∙ (λ k. first q (numbers qs ++ r) e k ∷ (tab-ext (length qs) _ _ (λ i h. next q (numbers qs ++ r) i e) ∙ go qs (wide-tail D q qs w)) k)
      where
        first : (q : Vector) (k : List Float) → length q ≡ D → vector_at D (flat q ++ k) (0 + 2 * D * 0) ≡ q
        first q k e = ap (vector_at D (flat q ++ k)) (zero-add (2 * D * 0) ∙ mul-zero (2 * D)) ∙ vector_flat q k D e

        next : (q : Vector) (k : List Float) (i : ℕ) → length q ≡ D → vector_at D (flat q ++ k) (0 + 2 * D * suc i) ≡ vector_at D k (0 + 2 * D * i)
        next q k i e =
            let f : 0 + 2 * D * suc i ≡ 2 * D + (0 + 2 * D * i) = rw (mul-suc (2 * D) i) (omega arith) in
            ap (vector_at D (flat q ++ k)) f
            ∙ sym (vector_drop D (flat q ++ k) (2 * D) (0 + 2 * D * i))
            ∙ ap (λ (z : List Float). vector_at D z (0 + 2 * D * i)) (drop_at (flat q) k (2 * D) (rw (length-flat q, e)))

-- ---- some of the points

-- point i
pub point-points : (D n : ℕ) (l : List Float) (a i : ℕ) → i < n → point (points_of D n (drop a l)) i ≡ vector_at D l (a + 2 * D * i)
point-points D n l a i h = ap (λ (q : List Vector). point q i) (points-tab D n l a) ∙ get_or-tab n (λ j. vector_at D l (a + 2 * D * j)) i [] h

-- the first m
pub take-points : (D n m : ℕ) (l : List Float) → m ≤ n → take m (points_of D n l) ≡ points_of D m l
unfolding points_of
take-points D n m l h =
    let e : n ≡ m + (n - m) = omega arith in
    ap (λ (k : ℕ). take m (tab k (λ i. point_at D l i))) e ∙ take-tab m (n - m) (λ i. point_at D l i)

-- those from number m on
pub drop-points : (D n m : ℕ) (l : List Float) (a : ℕ) → m ≤ n → drop m (points_of D n (drop a l)) ≡ points_of D (n - m) (drop (a + 2 * D * m) l)
drop-points D n m l a h =
    let e : n ≡ m + (n - m) = omega arith in
    ap (drop m) (points-tab D n l a)
    ∙ ap (λ (k : ℕ). drop m (tab k (λ i. vector_at D l (a + 2 * D * i)))) e
    ∙ drop-tab m (n - m) (λ i. vector_at D l (a + 2 * D * i))
    ∙ tab-ext (n - m) _ _ (λ j g. ap (vector_at D l) (shift j))
    ∙ sym (points-tab D (n - m) l (a + 2 * D * m))
  where
    shift : (j : ℕ) → a + 2 * D * (m + j) ≡ a + 2 * D * m + 2 * D * j
    shift j = rw (mul-add (2 * D) m j) (omega arith)

-- a point that was written
pub vector_written : (D : ℕ) (l : List Float) (a : ℕ) (qs : List Vector) (j : ℕ) → Wide D qs → j < length qs → a ≤ length l → vector_at D (put l a (numbers qs)) (a + 2 * D * j) ≡ point qs j
vector_written D l a qs j w h g =
    sym (point-points D (length qs) (put l a (numbers qs)) a j h)
    ∙ ap (λ (k : List Float). point (points_of D (length qs) k) j) (drop-written l a (numbers qs) g)
    ∙ ap (λ (k : List Vector). point k j) (points_numbers D qs (drop (0 + length (numbers qs)) (drop a l)) w)
