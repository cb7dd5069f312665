-- `subclasses::matrix::rows_of` meets its contract: each turn makes one row more.
-- Assumes nothing.
use Rattle.std.proofs.Common.{refl, arith}
use Rattle.subclasses.proofs.Entry.{classes_fit}
use Rattle.subclasses.proofs.Rows.{rows_none, rows_more}
use Rattle.subclasses.proofs.matrix.rows_of.Goals as goal

pub loop-a-init : goal.loop-a-init
loop-a-init c = rows_none _ _ refl

pub offset_bounds-rows-a : goal.offset_bounds-rows-a
offset_bounds-rows-a c = omega (arith, classes_fit c.args.bundle.now.opened)

pub bounds-rows-a : goal.bounds-rows-a
bounds-rows-a c = omega (arith, classes_fit c.args.bundle.now.opened)

pub loop-a-preserved : goal.loop-a-preserved
loop-a-preserved c = rows_more _ c.loop-a.rows _ c.loop-a.a c.loop-a.invariant c.row_of.ensures (omega (arith, classes_fit c.args.bundle.now.opened))
