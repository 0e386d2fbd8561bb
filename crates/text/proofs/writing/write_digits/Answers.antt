-- `write_digits` writes the digits where there is room.
use native.Mathlib.Omega.{arith}
use Rattle.text.proofs.print.Writing.{length_digits}
use Rattle.text.proofs.writing.Room.{room_there, wrote}
use Rattle.text.proofs.writing.write_digits.Goals as goal

pub returns-then-has_room : goal.returns-then-has_room
returns-then-has_room c =
    let w = c.put_digits in
    let asked = c.args in
    wrote asked.k (room_there _ _ _ c.has_room.ensures c.if-has_room.true) w.ensures
    (omega (arith, w.ensures.end, length_digits 16 asked.k asked.n))
