-- `put_bounds` writes the two dashes, or the two bounds behind their keys.
use Rattle.text.proofs.print.Writing.{written_as, dashes_written, five-joined}
use Rattle.text.specs.Bytes.{bytes}
use Rattle.text.specs.Respond.{bound_lines}
use Prim.Native.Nat.{◌+◌, ◌≤◌}
use mathlib.Core.Logic.{◌⊎◌, inl, inr}
use lib.Ieee.{Float}
use denote.Enum.Declared.{tag_of}
use Rattle.model.specs.contracts.contains.Found.{the_type}
use Rattle.model.specs.declared.subdivide.Counts.{Counts}
use Rattle.model.specs.declared.contains.Found.{Found}
use Rattle.model.specs.declared.contains.Found.TheVariants.{Nothing, Enclosed, Spent, Refused}
use Rattle.model.specs.Paper.{paper}
use mathlib.Core.Path.{◌≡◌, refl}
use native.Mathlib.Omega.{arith}
use Rattle.text.proofs.print.put_bounds.Goals as goal

-- An answer that is not Enclosed is one of the other three.
others : (f : Found) → ((lo hi : Float) (v : Counts) → f ≡ Enclosed lo hi v → ⊥) → (tag_of the_type f ≡ 0) ⊎ ((tag_of the_type f ≡ 2) ⊎ (tag_of the_type f ≡ 3))
others (Nothing v) h = inl refl
others (Enclosed lo hi v) h = absurd (h lo hi v refl)
others (Spent n v) h = inr (inl refl)
others (Refused e v) h = inr (inr refl)

pub returns-in_default : goal.returns-in_default
unfolding bytes
returns-in_default c =
    let w = c.put_word.ensures in
    dashes_written c.args.f (others c.args.f c.in_default.not-Enclosed) w (omega (arith, w.end))

pub returns : goal.returns
unfolding bytes bound_lines
returns c =
    let u = c.put_word-i.ensures in
    let v = c.put_double-j.ensures in
    let w = c.put_word-k.ensures in
    let x = c.put_double-l.ensures in
    let y = c.put_word-2.ensures in
    let h : c.put_word-2.result ≤ c.args.at + 40 = omega (arith, u.end, v.1, w.end, x.1, y.end) in
    written_as (λ f. bound_lines (paper f).bounds) c.in-Enclosed.is
    (five-joined (omega (arith, h, c.requires.0)) u v.0 w x.0 y) h
