-- `text::refusal::compose_line`: nothing is written where nothing is refused.
-- Assumes nothing.
use Rattle.lines.specs.Text.{refusal_line}
use Rattle.lines.proofs.Growing.{grown_none}
use Rattle.text.proofs.refusal.compose_line.Goals as goal

pub returns-in-Ok : goal.returns-in-Ok
unfolding refusal_line
returns-in-Ok c M = rw c.in-Ok.is (grown_none 76 _ 0)
