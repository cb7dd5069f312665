-- What the answer of a witness check says.
-- Assumes nothing.
use Rattle.std.specs.Prelude.{Result, Ok, Err}
use Rattle.rules.specs.Layout.{Answer, gives}
use Rattle.answers.specs.Refusals.{refusal_said}
use Rattle.answers.specs.Findings.{coverage_said}
use Rattle.verdicts.specs.declared.witness.WitnessError.{WitnessError}
use Rattle.verdicts.specs.declared.witness.WitnessError.TheVariants.{Fails, Refused}

abbrev pub witness_said : Result (Unit {0}) WitnessError → Answer (Unit {0})
witness_said (Ok x) = gives tt
witness_said (Err (Fails found)) = coverage_said found
witness_said (Err (Refused r)) = refusal_said r
