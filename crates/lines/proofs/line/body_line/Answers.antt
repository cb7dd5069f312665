-- `lines::line::body_line` meets its contract.
-- Assumes nothing.
use Rattle.lines.specs.Text.{field, finding, refused_line}
use Rattle.lines.proofs.Growing.{grown_both}
use Rattle.lines.proofs.line.body_line.Goals as goal

pub returns : goal.returns
unfolding field finding refused_line
returns c M =
    grown_both (grown_both c.put_number-p.ensures (grown_both c.put_field-q.ensures c.put_field-end.ensures)) c.put_word.ensures
