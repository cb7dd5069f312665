-- The loop's invariant: the rows of the first a classes are made.
-- Assumes nothing.
use Rattle.rules.specs.Model.{model_of}
use Rattle.subclasses.specs.Matrix.{RowsTo}
use Rattle.subclasses.proofs.matrix.rows_of.Given as goal

abbrev pub invariant-loop-a : goal.invariant-loop-a
invariant-loop-a l = RowsTo (model_of l.bundle.bytes.now) l.a l.rows
