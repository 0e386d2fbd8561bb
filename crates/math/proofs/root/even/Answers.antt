-- `root::even` meets its contract, by root/Shift.antt.
use Rattle.math.proofs.root.Shift.{odd_case}
use Rattle.math.proofs.root.even.Goals as goal

pub returns-then-a-eq1 : goal.returns-then-a-eq1
returns-then-a-eq1 c = odd_case c.args.m c.args.a c.if-a-eq1.true
