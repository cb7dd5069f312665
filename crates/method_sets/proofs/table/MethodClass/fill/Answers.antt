-- `method_sets::table::MethodClass::fill` meets its contract.
-- Assumes nothing.
use Rattle.layout.proofs.Opened.{placed_of}
use Rattle.method_sets.proofs.Rows.{column_classes, tabled_more}
use Rattle.method_sets.proofs.table.MethodClass.fill.Goals as goal

pub fill_place-requires-clause-classes_le_max_classes : goal.fill_place-requires-clause-classes_le_max_classes
fill_place-requires-clause-classes_le_max_classes c = (placed_of c.args.prepared.now.bundle.opened).classes_limit

pub fill_place-requires-clause-in_matrix : goal.fill_place-requires-clause-in_matrix
fill_place-requires-clause-in_matrix c = rw c.as_slice.ensures.value (column_classes c.args.prepared.now.bundle.opened c.column-column.ensures)

pub loop-place-preserved : goal.loop-place-preserved
loop-place-preserved c = tabled_more c.args.prepared.now.prepared c.column-column.ensures c.loop-place.invariant (rw c.as_slice.ensures.value at c.fill_place.ensures)
