-- `lines::line::put_method` meets its contract.
-- Assumes nothing.
use Rattle.lines.specs.Text.{field}
use Rattle.lines.proofs.Growing.{grown_both}
use Rattle.lines.proofs.line.put_method.Goals as goal

pub returns : goal.returns
unfolding field
returns c =
    grown_both c.put_field-end.ensures c.put_word.ensures
