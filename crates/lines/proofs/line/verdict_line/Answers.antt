-- `lines::line::verdict_line` meets its contract.
-- Assumes nothing.
use Rattle.std.proofs.Common.{arith}
use Rattle.lines.specs.Text.{verdict_line}
use Rattle.lines.specs.Appended.{finding_room}
use Rattle.lines.proofs.Growing.{grown_wider}
use Rattle.lines.proofs.line.verdict_line.Goals as goal

pub returns-in-Ok : goal.returns-in-Ok
unfolding verdict_line
returns-in-Ok c = rw c.in-Ok.is (grown_wider finding_room (omega arith) c.put_word.ensures)
