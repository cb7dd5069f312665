-- The loop's invariant: behind the heading stand the columns of the first i classes.
-- Assumes nothing.
use Rattle.std.proofs.Common.{take}
use Rattle.rules.specs.Model.{model_of}
use Rattle.rules.specs.Chart.{cell}
use Rattle.chart_line.proofs.Pieces.{Begun}
use Rattle.chart_line.proofs.Lines.{columns_to}
use Rattle.chart_line.proofs.line.put_columns.Given as goal

abbrev pub invariant-loop-i : goal.invariant-loop-i
invariant-loop-i l = Begun l.fn.line (columns_to (take 4 l.fn.line) (cell (model_of l.indexed.prepared.bundle.bytes.now) l.f l.k) l.classes l.i) l.line
