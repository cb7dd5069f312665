-- The loop's invariant: of the words before w, both sets have the same bits of the third's.
-- Assumes nothing.
use Rattle.std.proofs.Common.{ℕ, ◌≡◌, ◌+◌, ◌<◌, get_or, bit_and}
use Rattle.method_sets.proofs.sets.same_positions.Given as goal

abbrev pub invariant-loop-w : goal.invariant-loop-w
invariant-loop-w l = (k : ℕ) → k < l.w → bit_and (get_or l.set k 0) (get_or l.xs (l.a + k) 0) ≡ bit_and (get_or l.set k 0) (get_or l.ys (l.b + k) 0)
