-- Laws of the zeros over two lists of intervals: what the loop keeps point by point, and what that gives at the end. Assumes nothing.
use mathlib.Core.Path.{◌≡◌, refl, sym, ap, ◌∙◌}
use mathlib.Core.Bool.{Bool, true, false, not, cond}
use mathlib.Core.Option.{some}
use mathlib.Core.List.{List, zip_with}
use Prim.Native.Nat.{ℕ, ◌+◌, ◌-◌, ◌<◌}
use lib.Dec.{T, eqb, ltb, eqb→eq, ltb→lt}
use lib.ListN.{length, get_or}
use Rattle.lists.specs.Lists.{tab, last_d}
use Rattle.lists.proofs.Tab.{tab-whole, zip_with-tab}
use Rattle.math.specs.declared.scalars.Scalar.{Scalar}
use Rattle.math.specs.Divided.{Divided}
use Rattle.std.specs.Prelude.{Some, None}
use Rattle.math.specs.Revision.{arithmetic}
use Rattle.math.specs.Scalars.{Arithmetic, absent, ENTIRE}
use Rattle.math.proofs.Bools.{and_l, and_r}
use Rattle.model.specs.Aabb.{unions}
use Rattle.model.specs.FatLine.{offset, zeros_by, fat_line_zeros}
use Rattle.model.specs.Paper.{hat_of}
use Rattle.model.specs.Hat.{Hat}
use Rattle.geometry.specs.Zeros.{paired, answerable, polygon_zeros, ZerosFound, level_zeros, sloped_zeros, off_by, begun, taken, zeros_of}
use Rattle.geometry.specs.declared.zeros.Line.{Line}
use Rattle.geometry.proofs.aabb.Unions.{unions_first, unions_turn}

-- ---- where there is nothing to answer, and where the lists are a polygon

pub no_polygon : (rev : ℕ) (ξ d : List Scalar) (t : Bool) → t ≡ answerable rev (length ξ) (length d) → T (not t) → Some ENTIRE ≡ polygon_zeros rev ξ d
unfolding polygon_zeros
no_polygon rev ξ d true e h = absurd h
no_polygon rev ξ d false e h = ap (λ (b : Bool). cond b (fat_line_zeros (arithmetic (eqb rev 2)) ξ d) (Some ENTIRE)) e

pub a_polygon : (rev : ℕ) (ξ d : List Scalar) (t : Bool) → t ≡ answerable rev (length ξ) (length d) → T t → fat_line_zeros (arithmetic (eqb rev 2)) ξ d ≡ polygon_zeros rev ξ d
unfolding polygon_zeros
a_polygon rev ξ d true e h = ap (λ (b : Bool). cond b (fat_line_zeros (arithmetic (eqb rev 2)) ξ d) (Some ENTIRE)) e
a_polygon rev ξ d false e h = absurd h

-- the definition's answer, on paper
pub zeros-found : (rev : ℕ) (ξ d : List Scalar) (r : Hat) → r ≡ polygon_zeros rev ξ d → ZerosFound rev ξ d r
unfolding polygon_zeros
zeros-found rev ξ d r e = record { result = e; paper = ap hat_of e ∙ on-paper (answerable rev (length ξ) (length d)) (fat_line_zeros (arithmetic (eqb rev 2)) ξ d) }
  where
    on-paper : (t : Bool) (h : Hat) → hat_of (cond t h (Some ENTIRE)) ≡ cond t (hat_of h) (some ENTIRE)
    on-paper true h = refl
    on-paper false h = refl

pub as_many : (m n : ℕ) → T (paired m n) → m ≡ n
as_many m n h = eqb→eq m n (and_l (eqb m n) (ltb 0 n) h)

pub not-empty : (m n : ℕ) → T (paired m n) → 0 < n
not-empty m n h = ltb→lt 0 n (and_r (eqb m n) (ltb 0 n) h)

-- ---- what the turns keep

module _ (ar : Arithmetic) (ξ d : List Scalar) where
  abbrev x₀ : Scalar
  x₀ = get_or ξ 0 absent

  abbrev y₀ : Scalar
  y₀ = get_or d 0 absent

  abbrev slope : Divided
  slope = ar.div (ar.sub (last_d d absent) y₀) (ar.sub (last_d ξ absent) x₀)

  -- what point j lies off the chord
  abbrev off : ℕ → Scalar
  off j = off_by ar slope x₀ y₀ (get_or ξ j absent) (get_or d j absent)

  -- The line with the first i points taken in.
  abbrev pub line_of : ℕ → Line
  line_of i = record { x0 = x₀; y0 = y₀; last = last_d d absent; slope = slope; band = unions (tab i off) }

  pub line_first : (r : Line) → length ξ ≡ length d → r ≡ begun ar x₀ y₀ (get_or ξ (length d - 1) absent) (last_d d absent) → r ≡ line_of 1
  unfolding begun
  line_first r h e = e ∙ ap (λ (n : ℕ). begun ar x₀ y₀ (get_or ξ (n - 1) absent) (last_d d absent)) (sym h) ∙ ap (λ (b : Scalar). record { x0 = x₀; y0 = y₀; last = last_d d absent; slope = slope; band = b }) (unions_first off)

  pub line_turn : (i : ℕ) (l r : Line) → 0 < i → l ≡ line_of i → r ≡ taken ar l (get_or ξ i absent) (get_or d i absent) → r ≡ line_of (i + 1)
  unfolding taken
  line_turn i l r h e g =
      g
      ∙ ap (λ (k : Line). taken ar k (get_or ξ i absent) (get_or d i absent)) e
      ∙ ap (λ (b : Scalar). record { x0 = x₀; y0 = y₀; last = last_d d absent; slope = slope; band = b }) (unions_turn off i _ _ _ h refl refl refl)

  -- ---- at the end

  -- a list of all offsets, element by element
  zip-off : length ξ ≡ length d → (f : Scalar → Scalar → Scalar) → tab (length d) (λ j. f (get_or ξ j absent) (get_or d j absent)) ≡ zip_with f ξ d
  zip-off h f =
      sym (zip_with-tab f (length d) (λ j. get_or ξ j absent) (λ j. get_or d j absent))
      ∙ (λ k. zip_with f ((ap (λ (n : ℕ). tab n (λ j. get_or ξ j absent)) (sym h) ∙ tab-whole ξ absent) k) (tab-whole d absent k))

  zeros_by_lem : length ξ ≡ length d → (q : Divided) → zeros_of ar x₀ y₀ (last_d d absent) (unions (tab (length d) (λ j. off_by ar q x₀ y₀ (get_or ξ j absent) (get_or d j absent)))) q ≡ zeros_by ar ξ d x₀ y₀ q
  unfolding zeros_of zeros_by off_by
  zeros_by_lem h None = ap (λ (l : List Scalar). level_zeros (unions l)) (tab-whole d absent)
  zeros_by_lem h (Some s) =
      ap (λ (l : List Scalar). sloped_zeros ar s x₀ y₀ (last_d d absent) (unions l))
      (zip-off h (λ x y. offset ar s x₀ y₀ x y))

  pub line_done : (i : ℕ) (l : Line) (r : Hat) → length ξ ≡ length d → i ≡ length d → l ≡ line_of i → r ≡ zeros_of ar l.x0 l.y0 l.last l.band l.slope → r ≡ fat_line_zeros ar ξ d
  unfolding fat_line_zeros
  line_done i l r h n e g =
      g
      ∙ ap (λ (k : Line). zeros_of ar k.x0 k.y0 k.last k.band k.slope) (e ∙ ap (λ (m : ℕ). line_of m) n)
      ∙ zeros_by_lem h slope
