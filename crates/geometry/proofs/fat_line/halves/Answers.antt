-- `halves` equals its definition: three tests, made from the last on, and the first two as one where the carried width is a number.
use mathlib.Core.Path.{sym, ap, ◌∙◌}
use Prim.Native.Nat.{suc}
use lib.Ieee.{Float, lt}
use Rattle.math.specs.Picks.{max_f}
use Rattle.math.specs.Scalars.{sharp, width_s}
use Rattle.math.specs.declared.scalars.Scalar.{Scalar}
use Rattle.model.specs.Layout.{points_of}
use Rattle.model.specs.FatLine.{extent, halves}
use Rattle.geometry.proofs.fat_line.Sizes.{third_failed, halves_nan, halves-both}
use Rattle.geometry.proofs.fat_line.halves.Goals as goal

pub returns-then-not-resolution-width : goal.returns-then-not-resolution-width
unfolding halves
returns-then-not-resolution-width c =
    let a = c.args in
    let s = extent a.p.dim (points_of (suc a.p.dim) a.p.count a.p.words.now) in
    third_failed (lt (max_f a.carried a.resolution) s) (lt a.carried s) _
    (ap (λ (v : Scalar). lt a.resolution v.lo) (sym (c.width.ensures ∙ ap (λ (v : Scalar). sharp (width_s v)) c.domain.ensures)) ∙ c.if-not-resolution-width.true)

pub returns-then-is_nan : goal.returns-then-is_nan
unfolding halves
returns-then-is_nan c =
    let a = c.args in
    halves_nan a.carried a.resolution (extent a.p.dim (points_of (suc a.p.dim) a.p.count a.p.words.now)) _ (sym c.is_nan.ensures.value ∙ c.if-is_nan.true)

pub returns : goal.returns
unfolding halves
returns c =
    let a = c.args in
    let s = extent a.p.dim (points_of (suc a.p.dim) a.p.count a.p.words.now) in
    c.exceeds.ensures
    ∙ ap (λ (v : Float). lt v s) c.max.ensures
    ∙ halves-both a.carried a.resolution s _ (sym c.is_nan.ensures.value ∙ c.if-is_nan.false)
    (ap (λ (v : Scalar). lt a.resolution v.lo) (sym (c.width.ensures ∙ ap (λ (v : Scalar). sharp (width_s v)) c.domain.ensures)) ∙ c.if-not-resolution-width.false)
