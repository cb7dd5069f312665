-- The types at the places before i hold the signature's classes.
use Rattle.layout.specs.Bundles.{model}
use Rattle.typing.proofs.Sends.{Passed}
use Rattle.typing.proofs.send.licenses.Given as goal

abbrev pub invariant-loop-i : goal.invariant-loop-i
invariant-loop-i l = Passed (model l.bundle) l.rows l.f l.s l.i
