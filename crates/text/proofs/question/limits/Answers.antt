-- `limits` reads the nodes and the resolution.
use mathlib.Core.Path.{refl}
use native.Mathlib.Omega.{arith}
use Rattle.text.proofs.question.Others.{limits_none, limits_one, limits_two}
use Rattle.text.proofs.question.Doubles.{line_placed}
use Rattle.text.specs.Bytes.{bytes}
use Rattle.text.proofs.question.limits.Goals as goal

pub returns-in_err-n : goal.returns-in_err-n
unfolding bytes
returns-in_err-n c =
    let a = c.args in
    rw c.from_residual.ensures
    (limits_none a.rest.now _ c.small_line.ensures a.out.now a.out.now c.in_err-n.was)

pub returns-in_err-left : goal.returns-in_err-left
unfolding bytes
returns-in_err-left c =
    let a = c.args in
    rw c.from_residual-in_err-left.ensures
    (limits_one a.rest.now _ c.small_line.ensures a.out.now _
    _ _ c.in_ok-n.was _
    (line_placed (bytes "resolution=") c.in_ok-n.a.now 1 0 1 a.out.now c.line.new.out c.line.result (omega arith) refl c.line.ensures)
    c.in_err-left.was)

pub returns : goal.returns
unfolding bytes
returns c =
    let a = c.args in
    limits_two a.rest.now _ c.small_line.ensures a.out.now _
    _ _ c.in_ok-n.was _
    (line_placed (bytes "resolution=") c.in_ok-n.a.now 1 0 1 a.out.now c.line.new.out c.line.result (omega arith) refl c.line.ensures)
    _ c.in_ok-left.was
