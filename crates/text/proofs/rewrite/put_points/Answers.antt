-- `put_points` writes k lines. Invariant: the first i stand there, and the others begin at p.
use mathlib.Core.Path.{◌≡◌, ap, ◌∙◌, subst}
use mathlib.Core.List.{List}
use Prim.Native.Nat.{ℕ, ◌+◌, ◌-◌, ◌*◌, ◌≤◌, ◌<◌}
use native.Mathlib.Nat.{mul-suc, mul-zero}
use native.Mathlib.Numerals.{add-one}
use native.Mathlib.Omega.{arith}
use lib.ListN.{length}
use lib.Ieee.{Float}
use Rattle.lists.specs.Lists.{part}
use Rattle.lists.proofs.Part.{length_part}
use Rattle.text.specs.Bytes.{bytes}
use Rattle.text.specs.Form.{line_text}
use Rattle.text.specs.Printable.{Written, is_number}
use Rattle.text.proofs.question.Doubles.{row_in}
use Rattle.text.proofs.rewrite.Lines.{lines_none, lines_more, lines_all, all_part}
use Rattle.text.proofs.rewrite.put_points.Goals as goal

pub loop-i-init : goal.loop-i-init
loop-i-init c =
    let a = c.args in
    (omega (arith, mul-zero (6 + 17 * a.n)), lines_none _ a.xs.now a.n a.k a.out.now a.at (6 + 17 * a.n))

-- the doubles of a line are n
long : (xs : List Float) (n i k : ℕ) → i < k → n * k ≤ length xs → length (part xs (n * i) (n * i + n - n * i)) ≡ n
long xs n i k h g =
    let w : n * i + n - n * i ≡ n = omega arith in
    length_part xs (n * i) (n * i + n - n * i) (omega (arith, w, row_in n i k h)) ∙ w

pub put_line-p-requires : goal.put_line-p-requires
put_line-p-requires c =
    let l = c.loop-i in
    let a = c.args in
    let bytes-in = row_in (6 + 17 * a.n) l.i a.k (omega arith) in
    let few = long a.xs.now a.n l.i a.k (omega arith) c.requires.in_bounds.1 in record {
      in_bounds = omega (arith, bytes-in, l.invariant.0, few);
      all_numbers = all_part is_number a.xs.now (a.n * l.i) _ c.requires.all_numbers;
    }

pub loop-i-preserved : goal.loop-i-preserved
unfolding bytes
loop-i-preserved c =
    let l = c.loop-i in
    let a = c.args in
    let w = c.put_line-p in
    let few = long a.xs.now a.n l.i a.k (omega arith) c.requires.in_bounds.1 in
    let r : w.result ≡ l.p + (6 + 17 * a.n) = omega (arith, w.ensures.1, few) in
    let next : (6 + 17 * a.n) * (l.i + 1) ≡ (6 + 17 * a.n) * l.i + (6 + 17 * a.n) =
    ap (λ (x : ℕ). (6 + 17 * a.n) * x) (add-one l.i) ∙ mul-suc (6 + 17 * a.n) l.i in
    let whole : a.n * l.i + a.n - a.n * l.i ≡ a.n = omega arith in (
      omega (arith, r, next, l.invariant.0),
      lines_more _ a.xs.now a.n a.k a.out.now a.at (6 + 17 * a.n) l.i l.p w.result
          l.out w.new.out (omega arith) c.requires.in_bounds.0 l.invariant.0 r l.invariant.1
          (subst (λ (x : ℕ). Written l.out l.p (line_text (bytes "point=") (part a.xs.now (a.n * l.i) x)) w.new.out w.result)
          whole w.ensures.0),
    )

pub returns : goal.returns
unfolding bytes
returns c =
    let l = c.loop-i in
    let a = c.args in
    lines_all _ a.xs.now a.n a.k a.out.now a.at (6 + 17 * a.n) l.i l.p l.out
    (omega arith) (omega arith) l.invariant.0 l.invariant.1
