-- `root::root_bits` meets its contract, by root/Result.antt, in the two cases of the rounding.
use Rattle.math.proofs.root.Result.{up_lt, down_lt, up-answer, down-answer}
use Rattle.math.proofs.root.root_bits.Goals as goal

pub returns-then-q-r : goal.returns-then-q-r
returns-then-q-r c =
    let p = c.requires.3 in
    let n = c.normal-n.ensures in
    let e = c.even-s.ensures in
    let s = c.whole_root-r.ensures in
    (up-answer _ _ p n e s c.if-q-r.true, up_lt _ _ p n e s)

pub returns : goal.returns
returns c =
    let p = c.requires.3 in
    let n = c.normal-n.ensures in
    let e = c.even-s.ensures in
    let s = c.whole_root-r.ensures in
    (down-answer _ _ p n e s c.if-q-r.false, down_lt _ _ p n e s)
