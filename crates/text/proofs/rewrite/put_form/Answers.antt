-- `put_form` writes the three groups of lines, one behind the other.
use mathlib.Core.Path.{sym, ap, ◌∙◌, subst}
use mathlib.Core.List.{List}
use Prim.Native.Nat.{ℕ, ◌≤◌}
use native.Mathlib.Omega.{arith}
use lib.Seq.{length-take-le}
use lib.Dec.{T}
use lib.Ieee.{Float}
use Rattle.lists.specs.Lists.{all}
use Rattle.text.specs.Printable.{Written, is_number}
use Rattle.text.specs.Form.{form, limits_text, shape_text}
use Rattle.text.proofs.print.Writing.{joined}
use Rattle.text.proofs.rewrite.put_form.Goals as goal

pub put_limits-j-requires : goal.put_limits-j-requires
put_limits-j-requires c = (
  omega (arith, c.put_sizes-i.ensures.1),
  subst (λ (x : Float). T (is_number x)) (sym c.doubles-d.ensures.resolution) c.requires.all_numbers.resolution,
)

pub put_shape-requires : goal.put_shape-requires
put_shape-requires c =
    let d = c.doubles-d.ensures in
    let n = c.requires.all_numbers in record {
      in_bounds = (omega (arith, c.put_sizes-i.ensures.1, c.put_limits-j.ensures.1), c.args.asked.small);
      long = d.long;
      knots = ap (all is_number) d.knots ∙ n.knots;
      points = ap (all is_number) d.points ∙ n.points;
      sides = ap (all is_number) d.sides ∙ n.box;
    }

pub returns : goal.returns
unfolding form
returns c =
    let a = c.args.asked in
    let d = c.doubles-d.ensures in
    let u = c.put_sizes-i.ensures in
    let v = c.put_limits-j.ensures in
    let w = c.put_shape.ensures in
    let limits = subst (λ (t : List ℕ). Written c.put_sizes-i.new.out c.put_sizes-i.result t c.put_limits-j.new.out c.put_limits-j.result)
    (ap (limits_text a.nodes) d.resolution) v.0 in
    let shape = subst (λ (t : List ℕ). Written c.put_limits-j.new.out c.put_limits-j.result t c.put_shape.new.out c.put_shape.result)
    (λ i. shape_text a.sizes (d.knots i) (d.points i) (d.sides i)) w.0 in
    let long = c.put_shape.auto.out ∙ c.put_limits-j.auto.out ∙ c.put_sizes-i.auto.out in
    let h : c.put_shape.result ≤ 5496 = omega (arith, u.1, v.1, w.1) in record {
      written = joined (omega (arith, u.1, v.1)) (joined (omega (arith, u.1)) u.0 limits) shape;
      within = (omega (arith, h, long), sym (length-take-le _ _ (omega (arith, h, long))));
    }
