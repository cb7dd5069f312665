-- The bytes before k are joined, and the others are as they were.
use Rattle.layout.specs.Bundles.{model}
use Rattle.typing.proofs.Rows.{Joining}
use Rattle.typing.proofs.row.join.Given as goal

abbrev pub invariant-loop-k : goal.invariant-loop-k
invariant-loop-k l = Joining (model l.prepared.bundle) l.c l.initial.row l.row l.k
