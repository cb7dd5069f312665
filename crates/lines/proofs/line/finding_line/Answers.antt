-- `lines::line::finding_line` meets its contract: each case is written by a function of its own.
-- Assumes nothing.
use Rattle.std.proofs.Common.{arith}
use Rattle.rules.specs.Model.{model_of}
use Rattle.lines.specs.Text.{verdict_line}
use Rattle.lines.specs.Appended.{finding_room}
use Rattle.lines.proofs.Growing.{grown_wider}
use Rattle.lines.proofs.line.finding_line.Goals as goal

pub returns-in-Layout : goal.returns-in-Layout
unfolding verdict_line
returns-in-Layout c =
    rw c.in-Layout.is (grown_wider finding_room (omega arith) (c.layout_line.ensures (model_of c.args.bundle.now.bytes.now)))

pub returns-in-Scratch : goal.returns-in-Scratch
unfolding verdict_line
returns-in-Scratch c =
    rw c.in-Scratch.is (grown_wider finding_room (omega arith) (rw (c.from.ensures, c.code.ensures) at (c.number_line.ensures (model_of c.args.bundle.now.bytes.now))))

pub returns-in-Body : goal.returns-in-Body
unfolding verdict_line
returns-in-Body c =
    rw c.in-Body.is (grown_wider finding_room (omega arith) (c.body_line.ensures (model_of c.args.bundle.now.bytes.now)))
