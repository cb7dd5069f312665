-- The loop's invariant: the set has the first i parents.
-- Assumes nothing.
use Rattle.rules.specs.Layout.{parents_of}
use Rattle.inheritance.proofs.Rounds.{ParentsTo}
use Rattle.inheritance.proofs.closure.parent_set.Given as goal

abbrev pub invariant-loop-i : goal.invariant-loop-i
invariant-loop-i l = ParentsTo (parents_of l.bundle.bytes.now l.c) l.i l.set
