-- `lines::line::put_send` meets its contract.
-- Assumes nothing.
use Rattle.lines.specs.Text.{field}
use Rattle.lines.proofs.Growing.{grown_both}
use Rattle.lines.proofs.line.put_send.Goals as goal

pub returns : goal.returns
unfolding field
returns c =
    grown_both (grown_both (grown_both c.put_number-p.ensures c.put_field-q.ensures) c.put_field-end.ensures) c.put_classes.ensures
