-- Soundness about the answers of two calls: a check that accepted a bundle, and a run of the same bundle, judge every send and every resend alike.
-- Assumes nothing.
use Rattle.std.specs.Prelude.{ℕ, ◌≤◌, ◌≡◌, List, Result}
use Rattle.rules.specs.Layout.{gives}
use Rattle.rules.specs.Model.{model_of}
use Rattle.rules.specs.Calls.{check_call, run_call}
use Rattle.rules.specs.Scratch.{scratch_bytes}
use Rattle.rules.specs.Accepted.{CoveredOpening, SoundAnswer}
use Rattle.answers.specs.declared.finding.Finding.{Finding}
use Rattle.answers.specs.declared.refusal.Refusal.{Refusal}
use Rattle.machine.specs.declared.run.Outcome.{Outcome}
use Rattle.answers.specs.Findings.{verdict_said}
use Rattle.runs.specs.Said.{run_said}

-- the claim about one verdict and one answer of a run
abbrev pub JudgedAlike : List ℕ → ℕ → List ℕ → ℕ → Result (Unit {0}) Finding → Result Outcome Refusal → Type 0
JudgedAlike b f tuple count verdict outcome =
    verdict_said verdict ≡ gives tt → CoveredOpening (model_of b) f tuple → SoundAnswer (model_of b) f tuple count (run_said outcome)

-- The claim about any two calls on the same bytes: whatever verdict v the check call answered with a scratch of n bytes, and whatever answer r the run
-- call gave with a scratch of k bytes that are enough. The calls share nothing but the bundle, and either may have come first.
abbrev pub CallsJudgeAlike : Type 0
CallsJudgeAlike =
    (b : List ℕ) (n : ℕ) (v : Result (Unit {0}) Finding)
    → verdict_said v ≡ check_call b n
    → (k f : ℕ) (tuple : List ℕ) (count : ℕ) (r : Result Outcome Refusal)
    → run_said r ≡ run_call b k f tuple count
    → scratch_bytes ≤ k
    → JudgedAlike b f tuple count v r
