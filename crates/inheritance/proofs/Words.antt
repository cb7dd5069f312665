-- Sets of classes as words of bits: the set of no class.
-- Assumes nothing.
use Prim.Native.Nat.{ℕ, ◌+◌, ◌/◌, ◌%◌, ◌<◌}
use native.Mathlib.Omega.{arith}
use mathlib.Core.Path.{◌≡◌}
use mathlib.Core.Bool.{false}
use lib.ListN.{replicate, get_or-replicate}
use Rattle.rules.specs.Layout.{max_classes}
use Rattle.rules.specs.Bits.{in_set}
use Rattle.rules.proofs.Bits.{bit_zero}

-- words of 0 have no number
pub empty_set : (c : ℕ) → c < max_classes → in_set (replicate 2 0) 0 c ≡ false
unfolding in_set
empty_set c h = rw (get_or-replicate {A = ℕ} 2 (0 + c / 64) 0 0 (omega arith)) (bit_zero (c % 64))
