-- nurb_curve/split.rs: a piece cut in two, and a piece cut down to a hat. Definitions only.
use Rattle.std.specs.Prelude.{ℕ, ◌+◌, Bool, true, false, Float}
use Rattle.math.specs.Scalars.{Arithmetic}
use Rattle.model.specs.NurbCurve.{Piece, start, end, in_domain, mid_parameter}
use Rattle.model.specs.KnotInsertion.{full_cut, left_of, right_of}

-- What `split` gives: the piece left of the cut and the one right of it, or no cut.
pub data Halves : Type 0 where
  uncut : Halves
  both : Piece → Piece → Halves

-- The two pieces, where it is known whether t lies strictly inside the domain.
unfoldable pub split_by : Arithmetic → ℕ → Float → Piece → Bool → Halves
split_by ar p t c true = let k = full_cut ar p t c in both (left_of p k) (right_of k)
split_by ar p t c false = uncut

-- split: no cut unless t lies strictly inside the domain.
unfoldable pub split : Arithmetic → ℕ → Float → Piece → Halves
split ar p t c = split_by ar p t c (in_domain (start p c) (end c) t)

-- split_mid: the cut at mid_parameter.
unfoldable pub split_mid : Arithmetic → ℕ → Piece → Halves
split_mid ar p c = split ar p (mid_parameter ar (start p c) (end c)) c

-- What `restrict` gives: the piece that is left, and how many cuts were made, 0, 1 or 2.
pub record Restricted : Type 0 where
  pub piece : Piece
  pub cuts : ℕ

-- What is right of t, or the whole piece where t does not lie strictly inside.
unfoldable pub from_by : Arithmetic → ℕ → Float → Piece → Bool → Restricted
from_by ar p t c true = record { piece = right_of (full_cut ar p t c); cuts = 1 }
from_by ar p t c false = record { piece = c; cuts = 0 }

-- What is left of t, or the whole piece where t does not lie strictly inside.
unfoldable pub up_to_by : Arithmetic → ℕ → Float → Piece → Bool → Restricted
up_to_by ar p t c true = record { piece = left_of p (full_cut ar p t c); cuts = 1 }
up_to_by ar p t c false = record { piece = c; cuts = 0 }

-- restrict, sub_curve: cut at lo first; hi is then held to the domain that is left.
unfoldable pub restrict : Arithmetic → ℕ → Float → Float → Piece → Restricted
restrict ar p lo hi c =
    let a = from_by ar p lo c (in_domain (start p c) (end c) lo) in
    let b = up_to_by ar p hi a.piece (in_domain (start p a.piece) (end a.piece) hi) in
    record { piece = b.piece; cuts = a.cuts + b.cuts }
