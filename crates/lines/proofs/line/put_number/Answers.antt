-- `lines::line::put_number` meets its contract.
-- Assumes nothing.
use Rattle.lines.specs.Text.{field}
use Rattle.lines.proofs.line.put_number.Goals as goal

pub returns : goal.returns
unfolding field
returns c = rw (c.from.ensures, c.code.ensures) at c.put_field.ensures
