-- `chart_line::line::put_columns` meets its contract.
-- Assumes nothing.
use Rattle.std.proofs.Common.{length, get_or, arith, ap}
use Prim.Native.Nat.{ℕ}
use Rattle.rules.specs.Model.{model_of}
use Rattle.rules.specs.Chart.{cell}
use Rattle.rules.proofs.Chart.{cell_length}
use Rattle.layout.proofs.Opened.{wellformed_of}
use Rattle.chart_line.proofs.Charted.{few_classes, enough_room}
use Rattle.chart_line.proofs.Lines.{columns_none, columns_next}
use Rattle.chart_line.proofs.line.put_columns.Goals as goal

pub loop-i-init : goal.loop-i-init
loop-i-init c = columns_none c.args.line.now _ c.args.classes.now (enough_room c.requires.charted c.requires.bundle_in_bounds)

pub overflow_mul-at : goal.overflow_mul-at
overflow_mul-at c = omega (arith, few_classes (wellformed_of c.args.indexed.now.prepared.bundle.opened) c.requires.charted)

pub overflow_add-at : goal.overflow_add-at
overflow_add-at c = omega (arith, few_classes (wellformed_of c.args.indexed.now.prepared.bundle.opened) c.requires.charted)

pub put-requires : goal.put-requires
put-requires c = omega (arith, enough_room c.requires.charted c.requires.bundle_in_bounds)

pub put-requires-in-loop-i : goal.put-requires-in-loop-i
put-requires-in-loop-i c =
    let a = c.args in
    let four = cell_length (model_of a.indexed.now.prepared.bundle.bytes.now) a.f a.k (get_or a.classes.now c.loop-i.i 0) in
    omega (arith, ap (length {A = ℕ}) c.cell.ensures, four, enough_room c.requires.charted c.requires.bundle_in_bounds)

pub loop-i-preserved : goal.loop-i-preserved
loop-i-preserved c =
    let a = c.args in
    let M = model_of a.indexed.now.prepared.bundle.bytes.now in
    columns_next a.line.now (cell M a.f a.k) a.classes.now (enough_room c.requires.charted c.requires.bundle_in_bounds) (cell_length M a.f a.k)
    c.loop-i.i c.loop-i.line c.put.new.line c.put-in-loop-i.new.line (omega arith) c.loop-i.invariant c.put.ensures (rw c.cell.ensures at c.put-in-loop-i.ensures)
