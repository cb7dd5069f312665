-- The check of the whole body is that of the rest, from the stack that the rows hold.
use Rattle.layout.specs.Bundles.{model}
use Rattle.typing.proofs.Bodies.{Reached}
use Rattle.typing.proofs.body.type_body.Given as goal

abbrev pub invariant-loop-at : goal.invariant-loop-at
invariant-loop-at l = Reached (model l.indexed.prepared.bundle) l.m l.stack.items l.at
