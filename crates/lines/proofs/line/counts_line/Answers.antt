-- `lines::line::counts_line` meets its contract.
-- Assumes nothing.
use Rattle.lines.specs.Text.{field, counts_line}
use Rattle.lines.proofs.Growing.{grown_both}
use Rattle.lines.proofs.line.counts_line.Goals as goal

pub returns : goal.returns
unfolding field counts_line
returns c =
    (grown_both (grown_both (grown_both (grown_both c.put_field-p.ensures c.put_field-q.ensures) c.put_field-r.ensures) c.put_field-end.ensures) c.put_word.ensures)
