-- The loop's invariant: the rows have the ways through the first k classes.
-- Assumes nothing.
use Rattle.rules.specs.Layout.{parents_of}
use Rattle.inheritance.specs.Rows.{RowsOf}
use Rattle.inheritance.specs.Closure.{through}
use Rattle.inheritance.proofs.closure.closure.Given as goal

abbrev pub invariant-loop-k : goal.invariant-loop-k
invariant-loop-k l = RowsOf (through (parents_of l.bundle.bytes.now) l.k) l.bundle.tables.classes l.rows
