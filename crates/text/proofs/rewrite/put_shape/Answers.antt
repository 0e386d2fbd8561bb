-- `put_shape` writes the line of the knots, the lines of the points and that of the box, one behind the other.
use mathlib.Core.Path.{◌≡◌, subst}
use mathlib.Core.List.{◌++◌}
use Prim.Native.Nat.{ℕ, suc, ◌+◌, ◌*◌, ◌≤◌}
use native.Mathlib.Nat.{mul-le-mul}
use native.Mathlib.Omega.{arith}
use Rattle.text.specs.Bytes.{bytes}
use Rattle.text.specs.Printable.{Written}
use Rattle.text.specs.Form.{line_text, lines_text, shape_text}
use Rattle.text.proofs.question.Others.{few_numbers}
use Rattle.text.proofs.print.Writing.{joined}
use Rattle.text.proofs.rewrite.put_shape.Goals as goal

-- ---- the sizes

-- The points have few doubles, and their lines few bytes.
few : (dim count : ℕ) → dim ≤ 3 → count ≤ 32 → 2 * (dim + 1) * count ≤ 256
few dim count d n = few_numbers (2 * (dim + 1)) count (omega arith) (omega arith)

short : (dim count : ℕ) → dim ≤ 3 → count ≤ 32 → (6 + 17 * (2 * (dim + 1))) * count ≤ 4544
short dim count d n =
    let h : 6 + 17 * (2 * (dim + 1)) ≤ 142 = omega arith in
    mul-le-mul h n

pub returns : goal.returns
unfolding shape_text bytes
returns c =
    let a = c.args in
    let d : a.s.dim ≤ 3 = c.requires.in_bounds.1.0 in
    let n : a.s.count ≤ 32 = c.requires.in_bounds.1.2 in
    let long = c.requires.long in
    let point : 2 * (a.s.dim + 1) ≡ 2 * suc a.s.dim = omega arith in
    let x = c.put_line-i.ensures in
    let y = c.put_points-j.ensures in
    let z = c.put_line.ensures in
    let h : c.put_line.result ≤ a.at + 5336 =
    omega (arith, short a.s.dim a.s.count d n, long.knots_long, long.box_long, x.1, y.1, z.1) in (
      subst
          (λ (w : ℕ). Written a.out.now a.at
          (line_text (bytes "knots=") a.d.knots.now
          ++ lines_text (bytes "point=") w a.s.count a.d.points.now
          ++ line_text (bytes "box=") a.d.sides.now)
          c.put_line.new.out c.put_line.result)
          point
          (joined (omega (arith, h, y.1, z.1)) (joined (omega (arith, h, x.1, y.1, z.1)) x.0 y.0) z.0),
      h,
    )
