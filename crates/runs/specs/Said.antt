-- What the answer of a run says.
-- Assumes nothing.
use Rattle.std.specs.Prelude.{Result, Ok, Err}
use Rattle.rules.specs.Layout.{Answer, gives}
use Rattle.rules.specs.Machine as rules
use Rattle.answers.specs.declared.refusal.Refusal.{Refusal}
use Rattle.answers.specs.Refusals.{refusal_said}
use Rattle.machine.specs.declared.run.Outcome.{Outcome}
use Rattle.machine.specs.Outcome.{outcome_of}

abbrev pub run_said : Result Outcome Refusal → Answer rules.Outcome
run_said (Ok o) = gives (outcome_of o)
run_said (Err r) = refusal_said r
