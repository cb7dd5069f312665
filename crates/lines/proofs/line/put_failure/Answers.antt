-- `lines::line::put_failure` meets its contract: case by case.
-- Assumes nothing.
use Rattle.std.proofs.Common.{arith}
use Rattle.lines.specs.Text.{field, methods}
use Rattle.lines.specs.Appended.{methods_room}
use Rattle.lines.proofs.Growing.{grown_wider}
use Rattle.lines.proofs.line.put_failure.Goals as goal

pub returns-in-Declared : goal.returns-in-Declared
unfolding field methods
returns-in-Declared c = rw c.in-Declared.is (grown_wider methods_room (omega arith) c.put_method.ensures)

pub returns-in-Result : goal.returns-in-Result
unfolding field methods
returns-in-Result c = rw c.in-Result.is (grown_wider methods_room (omega arith) c.put_method-in-Result.ensures)
