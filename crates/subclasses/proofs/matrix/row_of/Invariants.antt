-- The loop's invariant: the row has the class itself, and what its first i parents are under.
-- Assumes nothing.
use Rattle.rules.specs.Model.{model_of}
use Rattle.subclasses.proofs.Rows.{Joined}
use Rattle.subclasses.proofs.matrix.row_of.Given as goal

abbrev pub invariant-loop-i : goal.invariant-loop-i
invariant-loop-i l = Joined (model_of l.bundle.bytes.now) l.a l.i l.row
