-- `chart_line::cell::number` meets its contract.
-- Assumes nothing.
use Rattle.rules.specs.Chart.{number}
use Rattle.chart_line.proofs.cell.number.Goals as goal

pub returns : goal.returns
unfolding number
returns c = rw (c.digit_at.ensures, c.digit_at-2.ensures, c.digit_at-3.ensures)
