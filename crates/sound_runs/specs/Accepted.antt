-- What the answer of a run of an accepted bundle says, and what it promises.
-- Assumes nothing.
use Rattle.std.specs.Prelude.{ℕ, ◌≡◌, List, Result, Ok, Err}
use Rattle.rules.specs.Layout.{Answer, gives}
use Rattle.rules.specs.Machine.{Ending, Outcome, value, spent, deep}
use Rattle.rules.specs.Accepted.{Accepted, ended, not_accepted, not_covered, SoundEnd}
use Rattle.answers.specs.Findings.{finding_number, finding_values}
use Rattle.answers.specs.Refusals.{refusal_said}
use Rattle.machine.specs.declared.ending.Ending.TheVariants as ending
use Rattle.machine.specs.declared.ending.Ending as ending-type
use Rattle.sound_runs.specs.declared.accepted.SoundEnd as end-type
use Rattle.sound_runs.specs.declared.accepted.SoundEnd.TheVariants as end
use Rattle.sound_runs.specs.declared.accepted.SoundRun.{SoundRun}
use Rattle.sound_runs.specs.declared.accepted.AcceptedError.{AcceptedError}
use Rattle.sound_runs.specs.declared.accepted.AcceptedError.TheVariants.{NotAccepted, NotCovered, Refused}

-- the end in the words of the rules
abbrev pub sound_ending : end-type.SoundEnd → Ending
sound_ending (end.Value c) = value c
sound_ending end.Spent = spent
sound_ending end.Deep = deep

abbrev pub sound_outcome : SoundRun → Outcome
sound_outcome r = record { ending = sound_ending r.end; steps = r.steps }

abbrev pub accepted_said : Result SoundRun AcceptedError → Answer Accepted
accepted_said (Ok r) = gives (ended (sound_outcome r))
accepted_said (Err (NotAccepted found)) = gives (not_accepted (finding_number found) (finding_values found))
accepted_said (Err NotCovered) = gives not_covered
accepted_said (Err (Refused r)) = refusal_said r

-- a run that no number stopped: Spent, Deep or a value
abbrev pub Unstopped : ending-type.Ending → Type 0
Unstopped (ending.Value c) = Unit {0}
Unstopped ending.Spent = Unit {0}
Unstopped ending.Deep = Unit {0}
Unstopped (ending.Fails s x) = ⊥
Unstopped (ending.Stopped number m at) = ⊥

-- where the answer is the end of a run, the check accepts, some signature covers the opening send, and the run is sound from its opening send to this end
abbrev pub EndsSoundly : List ℕ → ℕ → ℕ → List ℕ → ℕ → Answer Accepted → Type 0
EndsSoundly b scratch f tuple count r = (o : Outcome) → r ≡ gives (ended o) → SoundEnd b scratch f tuple count o
