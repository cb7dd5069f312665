-- The loop's invariant: the words before w have no bit.
-- Assumes nothing.
use Rattle.std.proofs.Common.{ℕ, ◌≡◌, ◌*◌, ◌<◌, false}
use Rattle.rules.specs.Bits.{in_set}
use Rattle.method_sets.proofs.sets.first_position.Given as goal

abbrev pub invariant-loop-w : goal.invariant-loop-w
invariant-loop-w l = (i : ℕ) → i < 64 * l.w → in_set l.set 0 i ≡ false
