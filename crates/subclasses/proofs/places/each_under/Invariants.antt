-- The loop's invariant: the entries before place i say that each class is under the one above.
-- Assumes nothing.
use Rattle.std.proofs.Common.{◌≡◌, ◌<◌, ℕ, get_or, true}
use Rattle.rules.specs.Scratch.{entry_at}
use Rattle.subclasses.proofs.places.each_under.Given as goal

abbrev pub invariant-loop-i : goal.invariant-loop-i
invariant-loop-i l = (k : ℕ) → k < l.i → entry_at l.scratch (get_or l.classes k 0) (get_or l.above k 0) ≡ true
