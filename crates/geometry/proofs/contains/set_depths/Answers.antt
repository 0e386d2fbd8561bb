-- `set_depths` writes the last word of each slot that a piece was handed on in.
use mathlib.Core.Path.{refl}
use native.Mathlib.Omega.{arith}
use Rattle.geometry.proofs.slots.Depth.{depth-room}
use Rattle.geometry.proofs.contains.set_depths.Goals as goal

pub set_depth-requires : goal.set_depth-requires
set_depth-requires c =
    let a = c.args in
    let room = depth-room a.s a.a a.w a.a c.requires.2 refl a.work.now c.requires.0 in
    (room.0, room.1, omega (arith, c.requires.3))

pub set_depth-requires-in-Halved : goal.set_depth-requires-in-Halved
set_depth-requires-in-Halved c =
    let a = c.args in
    let room = depth-room a.s a.a a.w a.a c.requires.2 refl a.work.now c.requires.0 in
    (room.0, room.1, omega (arith, c.requires.3))

pub set_depth-requires-in-Halved-2 : goal.set_depth-requires-in-Halved-2
set_depth-requires-in-Halved-2 c =
    let a = c.args in
    let room = depth-room a.s a.b a.w a.b c.requires.2 refl a.work.now c.requires.1 in
    (room.0, omega (arith, room.1, c.set_depth-in-Halved.auto.work), omega (arith, c.requires.3))
