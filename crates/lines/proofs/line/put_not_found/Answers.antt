-- `lines::line::put_not_found` meets its contract: no method, or the two rivals.
-- Assumes nothing.
use Rattle.std.proofs.Common.{arith}
use Rattle.lines.specs.Text.{field, methods}
use Rattle.lines.specs.Appended.{methods_room}
use Rattle.lines.proofs.Growing.{grown_wider}
use Rattle.lines.proofs.line.put_not_found.Goals as goal

pub returns-in-Missing : goal.returns-in-Missing
unfolding field methods
returns-in-Missing c = rw c.in-Missing.is (grown_wider methods_room (omega arith) c.put_word.ensures)

pub returns-in-Ambiguous : goal.returns-in-Ambiguous
unfolding field methods
returns-in-Ambiguous c = rw c.in-Ambiguous.is c.put_methods.ensures
