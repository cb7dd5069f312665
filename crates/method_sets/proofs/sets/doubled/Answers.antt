-- `method_sets::sets::doubled` meets its contract, whichever the bit.
-- Assumes nothing.
use Rattle.std.proofs.Common.{Bool, true, false, refl, ◌≡◌}
use mir.Val.{bool_byte}
use Rattle.rules.specs.Bits.{bit}
use Rattle.method_sets.proofs.sets.doubled.Goals as goal

-- a truth value as a number is its bit
own_bit : (low : Bool) → bool_byte low ≡ bit low
unfolding bit
own_bit true = refl
own_bit false = refl

pub returns : goal.returns
returns c = rw (c.from.ensures, own_bit c.args.low)
