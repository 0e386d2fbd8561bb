-- A piece cut in two, and a piece cut down to a hat: where its points are in order, so are those that are left. Assumes nothing.
use mathlib.Core.Bool.{Bool, true, false}
use Prim.Native.Nat.{ℕ}
use lib.Dec.{T}
use lib.ListN.{length}
use lib.Ieee.{Float, binary64, fits}
use Rattle.math.specs.Scalars.{Arithmetic}
use Rattle.math.specs.Encloses.{Encloses}
use Rattle.model.specs.NurbCurve.{Piece, start, end, in_domain, mid_parameter}
use Rattle.model.specs.KnotInsertion.{full_cut}
use Rattle.model.specs.Split.{split_by, split, split_mid, from_by, up_to_by, restrict}
use Rattle.model.specs.Enclosure.{Every}
use Rattle.model.proofs.Sound.Base.{Knots}
use Rattle.model.proofs.Sound.Restrict.{Both, Strict, strict, from-sub, mid-fits}
use Rattle.model.proofs.Every.{every_take, every_drop}
use Rattle.model.proofs.Proper.Blend.{Solid}
use Rattle.model.proofs.Proper.Cut.{cut_solid}

module _ (ar : Arithmetic) (E : Encloses ar) (dim p : ℕ) where
  module _ (c : Piece) (K : Knots p (length c.points) c.knots) (S : Every (Solid dim) c.points) where
    inside_solid : (x : Float) → Strict p c x → Every (Solid dim) (full_cut ar p x c).piece.points
    inside_solid x s = cut_solid ar E dim p x c K s S

    pub split_solid : Both (λ l r. Every (Solid dim) l.points × Every (Solid dim) r.points) (split_mid ar p c)
    unfolding split_mid split split_by
    split_solid = go (in_domain (start p c) (end c) t) (strict p c t K (mid-fits ar (start p c) (end c)))
      where
        t : Float
        t = mid_parameter ar (start p c) (end c)

        go : (z : Bool) → (T z → Strict p c t) → Both (λ l r. Every (Solid dim) l.points × Every (Solid dim) r.points) (split_by ar p t c z)
        go true h = let k = full_cut ar p t c in (every_take (Solid dim) k.at k.piece.points (inside_solid t (h tt)), every_drop (Solid dim) k.at k.piece.points (inside_solid t (h tt)))
        go false h = tt

    pub from_solid : (x : Float) → T (fits binary64 x) → Every (Solid dim) (from_by ar p x c (in_domain (start p c) (end c) x)).piece.points
    unfolding from_by
    from_solid x f = go (in_domain (start p c) (end c) x) (strict p c x K f)
      where
        go : (z : Bool) → (T z → Strict p c x) → Every (Solid dim) (from_by ar p x c z).piece.points
        go true h = every_drop (Solid dim) (full_cut ar p x c).at (full_cut ar p x c).piece.points (inside_solid x (h tt))
        go false h = S

    upto_solid : (x : Float) → T (fits binary64 x) → Every (Solid dim) (up_to_by ar p x c (in_domain (start p c) (end c) x)).piece.points
    unfolding up_to_by
    upto_solid x f = go (in_domain (start p c) (end c) x) (strict p c x K f)
      where
        go : (z : Bool) → (T z → Strict p c x) → Every (Solid dim) (up_to_by ar p x c z).piece.points
        go true h = every_take (Solid dim) (full_cut ar p x c).at (full_cut ar p x c).piece.points (inside_solid x (h tt))
        go false h = S

  -- what is left of a cut at lo can be cut again
  pub from-knots : (c : Piece) → Knots p (length c.points) c.knots → (lo : Float) → T (fits binary64 lo)
      → Knots p (length (from_by ar p lo c (in_domain (start p c) (end c) lo)).piece.points) (from_by ar p lo c (in_domain (start p c) (end c) lo)).piece.knots
  from-knots c K lo f = (from-sub ar E p c lo K (in_domain (start p c) (end c) lo) (strict p c lo K f)).knots

  -- THE PIECE CUT DOWN
  pub restrict_solid : (c : Piece) → Knots p (length c.points) c.knots → Every (Solid dim) c.points → (lo hi : Float) → T (fits binary64 lo) → T (fits binary64 hi)
      → Every (Solid dim) (restrict ar p lo hi c).piece.points
  unfolding restrict
  restrict_solid c K S lo hi f g = upto_solid (from_by ar p lo c (in_domain (start p c) (end c) lo)).piece (from-knots c K lo f) (from_solid c K S lo f) hi g
