-- `chart_line::cell::entry` meets its contract: case by case.
-- Assumes nothing.
use Rattle.rules.specs.Chart.{entry}
use Rattle.chart_line.proofs.cell.entry.Goals as goal

pub returns-in-Ok : goal.returns-in-Ok
unfolding entry
returns-in-Ok c = rw c.in-Ok.is c.number.ensures

pub returns-in-Err-Missing : goal.returns-in-Err-Missing
unfolding entry
returns-in-Err-Missing c = rw (c.in-Err-Missing.is, rw c.in-Err-Missing.is at c.in-Err-Missing.field-0-is)

pub returns-in-Err-Ambiguous : goal.returns-in-Err-Ambiguous
unfolding entry
returns-in-Err-Ambiguous c = rw (c.in-Err-Ambiguous.is, rw c.in-Err-Ambiguous.is at c.in-Err-Ambiguous.field-0-is)
