-- Both revisions: which arithmetic is in force, that each encloses, and that each keeps intervals in order. Assumes nothing.
use mathlib.Core.Path.{◌≡◌, ap}
use mathlib.Core.Bool.{Bool, true, false}
use Rattle.math.specs.Encloses.{Encloses, InOrder}
use Rattle.math.specs.Revision.{arithmetic}
use Rattle.math.specs.Scalars.{geop}
use Rattle.math.specs.Tight.{tight}
use Rattle.math.proofs.Intervals.Instance.{geop_encloses}
use Rattle.math.proofs.Intervals.Proper.{in_order_lem}
use Rattle.math.proofs.Tight.Instance.{tight_encloses}

-- ---- what a test of the revision found
pub second_is : (b : Bool) → b ≡ true → arithmetic b ≡ tight
second_is b e = ap arithmetic e

pub first_is : (b : Bool) → b ≡ false → arithmetic b ≡ geop
first_is b e = ap arithmetic e

-- ---- THE LAWS, in either
pub encloses : (second : Bool) → Encloses (arithmetic second)
encloses true = tight_encloses
encloses false = geop_encloses

pub arithmetic_in_order : (second : Bool) → InOrder (arithmetic second) (encloses second).exempt
arithmetic_in_order second = in_order_lem (arithmetic second) (encloses second)
