-- The rows of the triangle one by one: the first point of each and the last of each, as they are collected. Leans on the definitions alone.
use mathlib.Core.Path.{◌≡◌, refl, sym, ap, ◌∙◌}
use mathlib.Core.List.{List, [], ◌∷◌, ◌++◌, map, map-append, reverse, reverse-append, zip_with}
use Prim.Native.Nat.{ℕ, zero, suc, ◌+◌, ◌-◌, ◌≤◌, ◌<◌}
use native.Mathlib.Omega.{arith}
use lib.ListN.{length, get_or, length-append}
use Rattle.lists.specs.Lists.{tab, last_d}
use Rattle.lists.proofs.Tab.{length-tab, tab-cons}
use Rattle.math.specs.declared.scalars.Scalar.{Scalar}
use Rattle.math.specs.Scalars.{Arithmetic}
use Rattle.model.specs.Vector.{Vector, interpolate_v}
use Rattle.model.specs.NurbCurve.{point}
use Rattle.model.specs.KnotInsertion.{level, triangle, sides}
use Rattle.geometry.specs.Slots.{Wide}
use Rattle.geometry.proofs.knot_insertion.Wide.{length-between, wide-tab, wide-append, wide-cons}

zip-tab : {A B C : Type 0} (f : A → B → C) (xs : List A) (ys : List B) (d : A) (e : B) → length ys ≤ length xs → zip_with f xs ys ≡ tab (length ys) (λ j. f (get_or xs j d) (get_or ys j e))
unfolding zip_with
zip-tab f [] [] d e h = refl
zip-tab f [] (y ∷ ys) d e h = absurd (omega arith)
zip-tab f (x ∷ xs) [] d e h = refl
zip-tab f (x ∷ xs) (y ∷ ys) d e h =
    ap (λ (r : List _). f x y ∷ r) (zip-tab f xs ys d e (omega arith)) ∙ sym (tab-cons (length ys) (λ j. f (get_or (x ∷ xs) j d) (get_or (y ∷ ys) j e)))

module _ (ar : Arithmetic) (α : Scalar) where
  -- the next row, point by point
  pub level-tab : (row : List Vector) (n : ℕ) → length row ≡ suc n → level ar α row ≡ tab n (λ j. interpolate_v ar (point row j) (point row (suc j)) α)
  unfolding level
  level-tab [] n e = absurd (omega arith)
  level-tab (q ∷ qs) n e =
      let k : length qs ≡ n = omega arith in
      zip-tab (λ a b. interpolate_v ar a b α) (q ∷ qs) qs [] [] (omega arith)
      ∙ ap (λ (m : ℕ). tab m (λ j. interpolate_v ar (point (q ∷ qs) j) (point (q ∷ qs) (suc j)) α)) k

  pub level_long : (row : List Vector) (n : ℕ) → length row ≡ suc n → length (level ar α row) ≡ n
  level_long row n e = ap length (level-tab row n e) ∙ length-tab n _

  pub level-wide : (D : ℕ) (row : List Vector) (n : ℕ) → length row ≡ suc n → Wide D row → Wide D (level ar α row)
  level-wide D row n e w =
      rw (level-tab row n e) (wide-tab D n _ (λ j h. length-between ar D (point row j) (point row (suc j)) α (w j (omega arith)) (w (suc j) (omega arith))))

  -- ---- row number n

  abbrev pub row_at : ℕ → List Vector → List Vector
  row_at zero row = row
  row_at (suc n) row = level ar α (row_at n row)

  row-level : (n : ℕ) (row : List Vector) → row_at n (level ar α row) ≡ level ar α (row_at n row)
  row-level zero row = refl
  row-level (suc n) row = ap (level ar α) (row-level n row)

  -- one row more
  pub triangle-snoc : (n : ℕ) (row : List Vector) → triangle ar α (suc n) row ≡ triangle ar α n row ++ (row_at n row ∷ [])
  unfolding triangle
  triangle-snoc zero row = refl
  triangle-snoc (suc n) row =
      ap (λ (r : List (List Vector)). row ∷ r) (triangle-snoc n (level ar α row) ∙ ap (λ (r : List Vector). triangle ar α n (level ar α row) ++ (r ∷ [])) (row-level n row))

  -- the rows grow shorter
  pub row_long : (n m : ℕ) (row : List Vector) → length row ≡ n + m → length (row_at n row) ≡ m
  row_long zero m row e = omega arith
  row_long (suc n) m row e = level_long (row_at n row) m (row_long n (suc m) row (omega arith))

  pub row-wide : (D n m : ℕ) (row : List Vector) → length row ≡ n + m → Wide D row → Wide D (row_at n row)
  row-wide D zero m row e w = w
  row-wide D (suc n) m row e w = level-wide D (row_at n row) m (row_long n (suc m) row (omega arith)) (row-wide D n (suc m) row (omega arith) w)

  -- ---- the sides

  -- The first points of the first n rows.
  abbrev pub heads : ℕ → List Vector → List Vector
  heads n row = map (λ r. get_or r 0 []) (triangle ar α n row)

  -- The last points of the first n rows, the last row's first.
  abbrev pub lasts : ℕ → List Vector → List Vector
  lasts n row = reverse (map (λ r. last_d r []) (triangle ar α n row))

  pub heads_none : (row : List Vector) → heads 0 row ≡ []
  unfolding triangle
  heads_none row = refl

  pub lasts_none : (row : List Vector) → lasts 0 row ≡ []
  unfolding triangle
  lasts_none row = refl

  pub heads-more : (n : ℕ) (row : List Vector) → heads (suc n) row ≡ heads n row ++ (point (row_at n row) 0 ∷ [])
  heads-more n row = ap (map (λ r. get_or r 0 [])) (triangle-snoc n row) ∙ map-append (λ r. get_or r 0 []) (triangle ar α n row) (row_at n row ∷ [])

  pub lasts-more : (n : ℕ) (row : List Vector) → lasts (suc n) row ≡ last_d (row_at n row) [] ∷ lasts n row
  lasts-more n row =
      ap (λ (t : List (List Vector)). reverse (map (λ r. last_d r []) t)) (triangle-snoc n row)
      ∙ ap reverse (map-append (λ r. last_d r []) (triangle ar α n row) (row_at n row ∷ []))
      ∙ reverse-append (map (λ r. last_d r []) (triangle ar α n row)) (last_d (row_at n row) [] ∷ [])

  pub heads_long : (n : ℕ) (row : List Vector) → length (heads n row) ≡ n
  heads_long zero row = ap length (heads_none row)
  heads_long (suc n) row = ap length (heads-more n row) ∙ length-append (heads n row) _ ∙ nat (heads_long n row)
    where
      nat : length (heads n row) ≡ n → length (heads n row) + 1 ≡ suc n
      nat e = omega arith

  pub lasts_long : (n : ℕ) (row : List Vector) → length (lasts n row) ≡ n
  lasts_long zero row = ap length (lasts_none row)
  lasts_long (suc n) row = ap length (lasts-more n row) ∙ ap suc (lasts_long n row)

  pub sides-are : (n : ℕ) (row : List Vector) → sides (triangle ar α n row) ≡ heads n row ++ lasts n row
  unfolding sides
  sides-are n row = refl

  -- ---- their intervals

  module _ (D : ℕ) (row : List Vector) (w : Wide D row) where
    head-wide : (n : ℕ) → n < length row → length (point (row_at n row) 0) ≡ D
    head-wide n h =
        let e : length row ≡ n + (length row - n) = omega arith in
        row-wide D n (length row - n) row e w 0 (omega (arith, row_long n (length row - n) row e))

    pub last_wide : (n : ℕ) → n < length row → length (last_d (row_at n row) []) ≡ D
    last_wide n h =
        let e : length row ≡ n + (length row - n) = omega arith in
        row-wide D n (length row - n) row e w (length (row_at n row) - 1) (omega (arith, row_long n (length row - n) row e))

    pub heads-wide : (n : ℕ) → n ≤ length row → Wide D (heads n row)
    heads-wide zero h = rw (heads_none row) (λ i k. absurd (omega arith))
    heads-wide (suc n) h = rw (heads-more n row) (wide-append D (heads n row) (point (row_at n row) 0 ∷ []) (heads-wide n (omega arith)) (wide-cons D (point (row_at n row) 0) [] (head-wide n h) (λ i k. absurd (omega arith))))

    pub lasts-wide : (n : ℕ) → n ≤ length row → Wide D (lasts n row)
    lasts-wide zero h = rw (lasts_none row) (λ i k. absurd (omega arith))
    lasts-wide (suc n) h = rw (lasts-more n row) (wide-cons D (last_d (row_at n row) []) (lasts n row) (last_wide n h) (lasts-wide n (omega arith)))
