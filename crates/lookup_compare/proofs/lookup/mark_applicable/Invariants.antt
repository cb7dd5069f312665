-- No more methods are marked than were passed.
use Rattle.std.proofs.Common.{◌≤◌}
use Rattle.lookup_compare.proofs.lookup.mark_applicable.Given as goal

abbrev pub invariant-loop-m : goal.invariant-loop-m
invariant-loop-m l = l.count ≤ l.m
