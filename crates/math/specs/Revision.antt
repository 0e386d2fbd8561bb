-- The arithmetic of each revision: that of 1 is the Rust's, that of 2 the tightest. Definitions only.
use Rattle.std.specs.Prelude.{Bool, true, false}
use Rattle.math.specs.Scalars.{Arithmetic, geop}
use Rattle.math.specs.Tight.{tight}

-- `second` says that revision 2 is in force
abbrev pub arithmetic : Bool → Arithmetic
arithmetic true = tight
arithmetic false = geop
