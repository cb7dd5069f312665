-- What the answer of a run says, in the words of the rules.
-- Assumes nothing.
use Rattle.rules.specs.Machine as rules
use Rattle.machine.specs.Endings.{ending_of}
use Rattle.machine.specs.declared.run.Outcome as outcome-type

abbrev pub outcome_of : outcome-type.Outcome → rules.Outcome
outcome_of o = record { ending = ending_of o.ending; steps = o.steps }
