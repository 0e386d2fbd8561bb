-- `shape` reads the knots, the points and the box, and writes them one behind the other.
use mathlib.Core.Path.{◌≡◌}
use Prim.Native.Nat.{ℕ, ◌+◌, ◌-◌, ◌*◌, ◌≤◌}
use native.Mathlib.Omega.{arith}
use lib.ListN.{length}
use borrow.Rule.Slice.PartMut.{put_mid, same_len_mid}
use Rattle.text.proofs.question.Others.{few_numbers, shape_none, shape_one, shape_two}
use Rattle.text.proofs.question.Doubles.{placed, line_placed}
use Rattle.text.specs.Bytes.{bytes}
use Rattle.text.proofs.question.shape.Goals as goal

pub returns-in_err-a : goal.returns-in_err-a
unfolding bytes
returns-in_err-a c =
    let a = c.args in
    let K : ℕ = a.s.count + a.s.degree + 1 in
    let e : 1 + K - 1 ≡ K = omega arith in
    let one = line_placed _ a.rest.now K 1 (1 + K - 1) a.out.now c.line.new.out c.line.result
    (omega (arith, e, c.requires)) e c.line.ensures in
    rw c.from_residual.ensures (shape_none a.rest.now a.s a.out.now _ _ one c.in_err-a.was)

pub returns-in_err-c : goal.returns-in_err-c
unfolding bytes
returns-in_err-c c =
    let a = c.args in
    let l = a.out.now in
    let K : ℕ = a.s.count + a.s.degree + 1 in
    let w : ℕ = 2 * (a.s.dim + 1) in
    let P : ℕ = w * a.s.count in
    let few : P ≤ 256 = few_numbers w a.s.count (omega arith) (omega arith) in
    let e : 1 + K - 1 ≡ K = omega arith in
    let f : 1 + K + P - (1 + K) ≡ P = omega arith in
    let m = put_mid 1 (1 + K - 1) l c.line.new.out in
    let long : length m ≡ length l = same_len_mid 1 (1 + K - 1) l c.line.new.out c.line.auto.out in
    let one = line_placed _ a.rest.now K 1 (1 + K - 1) l c.line.new.out c.line.result
    (omega (arith, e, c.requires)) e c.line.ensures in
    let two = placed _ P (1 + K) (1 + K + P - (1 + K)) m c.lines.new.out c.lines.result
    (omega (arith, f, few, long, c.requires)) f c.lines.ensures in
    rw c.from_residual-in_err-c.ensures
    (shape_one a.rest.now a.s l _ _ one _ _ c.in_ok-a.was (omega arith) _ _ two c.in_err-c.was)

pub returns : goal.returns
unfolding bytes
returns c =
    let a = c.args in
    let l = a.out.now in
    let K : ℕ = a.s.count + a.s.degree + 1 in
    let w : ℕ = 2 * (a.s.dim + 1) in
    let P : ℕ = w * a.s.count in
    let few : P ≤ 256 = few_numbers w a.s.count (omega arith) (omega arith) in
    let e : 1 + K - 1 ≡ K = omega arith in
    let f : 1 + K + P - (1 + K) ≡ P = omega arith in
    let g : 1 + K + P + 2 * a.s.dim - (1 + K + P) ≡ 2 * a.s.dim = omega arith in
    let m = put_mid 1 (1 + K - 1) l c.line.new.out in
    let k = put_mid (1 + K) (1 + K + P - (1 + K)) m c.lines.new.out in
    let long : length m ≡ length l = same_len_mid 1 (1 + K - 1) l c.line.new.out c.line.auto.out in
    let longer : length k ≡ length m = same_len_mid (1 + K) (1 + K + P - (1 + K)) m c.lines.new.out c.lines.auto.out in
    let one = line_placed _ a.rest.now K 1 (1 + K - 1) l c.line.new.out c.line.result
    (omega (arith, e, c.requires)) e c.line.ensures in
    let two = placed _ P (1 + K) (1 + K + P - (1 + K)) m c.lines.new.out c.lines.result
    (omega (arith, f, few, long, c.requires)) f c.lines.ensures in
    let three = line_placed _ c.in_ok-c.c.now (2 * a.s.dim) (1 + K + P) (1 + K + P + 2 * a.s.dim - (1 + K + P)) k
    c.line-2.new.out c.line-2.result (omega (arith, g, few, long, longer, c.requires)) g c.line-2.ensures in
    shape_two a.rest.now a.s l _ _ one _ _ c.in_ok-a.was (omega arith) _ _ two _ c.in_ok-c.was _ c.line-2.result three
    (omega (arith, few, c.requires))
