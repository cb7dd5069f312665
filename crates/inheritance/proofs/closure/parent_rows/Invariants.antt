-- The loop's invariant: the rows of the first c classes are made.
-- Assumes nothing.
use Rattle.rules.specs.Layout.{parents_of}
use Rattle.inheritance.specs.Rows.{RowsOf}
use Rattle.inheritance.specs.Closure.{through}
use Rattle.inheritance.proofs.closure.parent_rows.Given as goal

abbrev pub invariant-loop-c : goal.invariant-loop-c
invariant-loop-c l = RowsOf (through (parents_of l.bundle.bytes.now) 0) l.c l.rows
