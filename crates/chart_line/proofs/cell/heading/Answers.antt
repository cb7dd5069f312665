-- `chart_line::cell::heading` meets its contract: line 0 has blanks, each other line its class.
-- Assumes nothing.
use Rattle.std.proofs.Common.{arith, sym, ap, ◌∙◌}
use Rattle.rules.specs.Bytes.{byte}
use Rattle.rules.specs.Chart.{number, heading}
use Rattle.chart_line.proofs.Lines.{heading_later}
use Rattle.chart_line.proofs.cell.heading.Goals as goal

pub returns-then-k-eq0 : goal.returns-then-k-eq0
unfolding heading
returns-then-k-eq0 c M e = rw c.if-k-eq0.true

pub returns-else-k-eq0 : goal.returns-else-k-eq0
unfolding byte
returns-else-k-eq0 c M e =
    c.number.ensures ∙ rw (sym e) (ap number c.byte_at.ensures.0) ∙ sym (heading_later M c.args.k (omega arith))
