-- Soundness about the answers of two calls, from the law over the definitions and the contracts of the two.
-- Assumes nothing.
use Prim.Native.Nat.{ℕ}
use mathlib.Core.Path.{◌≡◌, sym, ◌∙◌}
use mathlib.Core.List.{List}
use borrow.Author.Tests.{leb-true}
use Rattle.rules.specs.Coverage.{verdict}
use Rattle.rules.specs.Calls.{check_call, run_call}
use Rattle.rules.specs.Scratch.{scratch_bytes}
use Rattle.rules.proofs.Accepted as accepted
use Rattle.std.specs.Prelude.{Result}
use Rattle.answers.specs.declared.finding.Finding.{Finding}
use Rattle.answers.specs.declared.refusal.Refusal.{Refusal}
use Rattle.answers.specs.Findings.{verdict_said}
use Rattle.machine.specs.declared.run.Outcome.{Outcome}
use Rattle.runs.specs.Said.{run_said}
use Rattle.curiumtoad.specs.Alike.{JudgedAlike, CallsJudgeAlike}

-- any two calls, each with its own scratch
pub calls_judge_alike : CallsJudgeAlike
calls_judge_alike b n v c k f tuple count r q long e w = rw q (accepted.judged_alike b n (sym c ∙ e) k f tuple count long w)

-- two calls with scratches of one length: that it is enough follows from the acceptance
pub judged_alike : (b : List ℕ) (n f : ℕ) (tuple : List ℕ) (count : ℕ) (v : Result (Unit {0}) Finding) (r : Result Outcome Refusal)
    → verdict_said v ≡ check_call b n → run_said r ≡ run_call b n f tuple count → JudgedAlike b f tuple count v r
unfolding check_call
judged_alike b n f tuple count v r c q e =
    let g = accepted.given b n verdict tt (sym c ∙ e) in
    calls_judge_alike b n v c n f tuple count r q (leb-true scratch_bytes n g.enough) e
