-- The loop's invariant: the round has come to class a.
-- Assumes nothing.
use Rattle.inheritance.proofs.Rounds.{RoundTo}
use Rattle.inheritance.proofs.closure.through_class.Given as goal

abbrev pub invariant-loop-a : goal.invariant-loop-a
invariant-loop-a l = RoundTo l.fn.rows l.k l.a l.rows
