-- `lines::line::number_line` meets its contract.
-- Assumes nothing.
use Rattle.lines.specs.Text.{field, finding, refused_line}
use Rattle.lines.proofs.Growing.{grown_none, grown_both}
use Rattle.lines.proofs.line.number_line.Goals as goal

pub returns : goal.returns
unfolding field finding refused_line
returns c M =
    grown_both (grown_both c.put_field-end.ensures (grown_none 0 _ _)) c.put_word.ensures
