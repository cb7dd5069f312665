-- The row is that of the type that the signatures before s give the send.
use Rattle.layout.specs.Bundles.{model}
use Rattle.typing.proofs.Sends.{Sending}
use Rattle.typing.proofs.send.send_row.Given as goal

abbrev pub invariant-loop-s : goal.invariant-loop-s
invariant-loop-s l = Sending (model l.prepared.bundle) l.rows l.f l.sent l.s
