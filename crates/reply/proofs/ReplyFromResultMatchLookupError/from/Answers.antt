-- The reply of a lookup: an exact method is marked by a bit.
-- Assumes nothing.
use mathlib.Core.Path.{◌≡◌, refl}
use mathlib.Core.Bool.{Bool, true, false}
use mir.Val.{bool_byte}
use Rattle.rules.specs.Bits.{bit}
use Rattle.reply.proofs.ReplyFromResultMatchLookupError.from.Goals as goal

byte_bit : (t : Bool) → bool_byte t ≡ bit t
unfolding bit
byte_bit true = refl
byte_bit false = refl

pub returns-in-Ok : goal.returns-in-Ok
returns-in-Ok c = rw (c.in-Ok.is, ← byte_bit c.in-Ok.found.exact, ← c.from.ensures) c.given.ensures
