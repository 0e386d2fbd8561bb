-- The numbers of the refusals in the papers. Definitions only.
use Rattle.std.specs.Prelude.{ℕ, cond, eqb}
use Rattle.std.specs.Prelude.{Result, Ok, Err}
use Rattle.model.specs.declared.refusal.Refusal.{Refusal}
use Rattle.model.specs.declared.refusal.Refusal.TheVariants.{Dim, Degree, Count, Length, Value, Order, Weight, Knots, Nodes, Work, Piece, Text, Cart, Room, Revision, Sheet}

-- The number of a refusal.
abbrev pub number_of : Refusal → ℕ
number_of Dim = 1
number_of Degree = 2
number_of Count = 3
number_of Length = 4
number_of Value = 5
number_of Order = 6
number_of Weight = 7
number_of Knots = 8
number_of Nodes = 9
number_of Work = 10
number_of Piece = 11
number_of Text = 12
number_of Cart = 14
number_of Room = 15
number_of Revision = 16
number_of Sheet = 23

-- The refusal that has a number; of a number that none has it is `Dim`, which says nothing.
abbrev pub refusal_of : ℕ → Refusal
refusal_of n =
    cond (eqb n 2) Degree (
    cond (eqb n 3) Count (
    cond (eqb n 4) Length (
    cond (eqb n 5) Value (
    cond (eqb n 6) Order (
    cond (eqb n 7) Weight (
    cond (eqb n 8) Knots (
    cond (eqb n 9) Nodes (
    cond (eqb n 10) Work (
    cond (eqb n 11) Piece (
    cond (eqb n 12) Text (
    cond (eqb n 14) Cart (
    cond (eqb n 15) Room (
    cond (eqb n 16) Revision (
    cond (eqb n 23) Sheet (
    Dim)))))))))))))))

-- The number by which something is refused, and 0 where nothing is wrong.
abbrev pub code_of : {A : Type 0} → Result A Refusal → ℕ
code_of (Ok x) = 0
code_of (Err e) = number_of e
