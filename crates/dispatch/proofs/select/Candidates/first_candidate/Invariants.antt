-- The loop's invariant: the position held is one of the list's.
use Rattle.std.proofs.Common.{◌<◌, length}
use Rattle.dispatch.proofs.select.Candidates.first_candidate.Given as goal

abbrev pub invariant-loop-i : goal.invariant-loop-i
invariant-loop-i l = l.held < length l.self.list.now
