-- No more methods are counted than were passed.
use Rattle.std.proofs.Common.{◌≤◌}
use Rattle.lookup_compare.proofs.lookup.rank_of.Given as goal

abbrev pub invariant-loop-m : goal.invariant-loop-m
invariant-loop-m l = (l.below ≤ l.m) × (l.above ≤ l.m)
