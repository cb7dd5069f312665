-- The loop's invariant: the first w words of the place are written.
-- Assumes nothing.
use Rattle.method_sets.specs.Sets.{Rows}
use Rattle.method_sets.proofs.table.fill_place.Given as goal

abbrev pub invariant-loop-w : goal.invariant-loop-w
invariant-loop-w l = Rows l.scratch l.column l.place l.w l.fn.table l.table
