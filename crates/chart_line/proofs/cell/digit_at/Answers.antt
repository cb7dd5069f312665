-- `chart_line::cell::digit_at` meets its contract.
-- Assumes nothing.
use borrow.Author.Tests.{lt-ltb, le-ltb}
use Rattle.rules.specs.Chart.{digit_at}
use Rattle.chart_line.proofs.cell.digit_at.Goals as goal

pub returns-then-n-power : goal.returns-then-n-power
unfolding digit_at
returns-then-n-power c = rw (lt-ltb _ _ c.if-n-power.true)

pub returns-else-n-power : goal.returns-else-n-power
unfolding digit_at
returns-else-n-power c = rw (le-ltb _ _ c.if-n-power.false)
