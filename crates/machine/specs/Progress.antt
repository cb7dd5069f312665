-- What a run on its way has come to, in the words of the rules.
-- Assumes nothing.
use Rattle.std.specs.Prelude.{ℕ, ◌≤◌, ◌<◌, ◌≡◌, List, length, get_or, Option, Some, None, Result, Ok, Err}
use Rattle.rules.specs.Model.{Model}
use Rattle.rules.specs.Machine as rules
use Rattle.frames.specs.Arrays.{method_at, next_at, height_at, stack_at}
use Rattle.machine.specs.Held.{resumed, Going}
use Rattle.machine.specs.Endings.{ending_of}
use Rattle.machine.specs.declared.ending.Ending.{Ending}
use Rattle.machine.specs.declared.run.Outcome.{Outcome}

-- what the body of frame k answers: it has an instruction left, or has ended in the one value that it leaves, or ends the run
abbrev pub BodyAt : Model → List ℕ → List ℕ → ℕ → Result (Option ℕ) Ending → Type 0
BodyAt M fs vs k (Ok None) = next_at fs k < length (M.body (method_at fs k))
BodyAt M fs vs k (Ok (Some v)) = (length (M.body (method_at fs k)) ≤ next_at fs k) × (height_at fs k ≡ 1) × (v ≡ get_or vs (stack_at k) 0) × (v < 256)
BodyAt M fs vs k (Err e) = rules.ends (ending_of e) ≡ resumed M fs vs k

-- what the run comes to next, with the frames as the arrays hold them
abbrev pub resumption_of : Model → List ℕ → List ℕ → Result ℕ Ending → rules.Resumption
resumption_of M fs vs (Ok k) = resumed M fs vs k
resumption_of M fs vs (Err e) = rules.ends (ending_of e)

-- where the run stands after a pace that made its steps n, if it goes on
abbrev pub progress_of : Model → List ℕ → List ℕ → ℕ → Result ℕ Outcome → rules.Progress
progress_of M fs vs n (Ok k) = rules.progress (resumed M fs vs k) n
progress_of M fs vs n (Err o) = rules.progress (rules.ends (ending_of o.ending)) o.steps

-- a run that goes on has an instruction to go on with
abbrev pub Onward : {E : Type 0} → Model → List ℕ → List ℕ → Result ℕ E → Type 0
Onward M fs vs (Ok k) = Going M fs vs k
Onward M fs vs (Err e) = Unit {0}

-- the answer says what the rules say, and the arrays hold what the run goes on with
pub record ResumesTo (M : Model) (fs vs : List ℕ) (r : Result ℕ Ending) (l : rules.Resumption) : Type 0 where
  pub resumes : resumption_of M fs vs r ≡ l
  pub onward : Onward M fs vs r

pub record ProgressTo (M : Model) (fs vs : List ℕ) (n : ℕ) (r : Result ℕ Outcome) (p : rules.Progress) : Type 0 where
  pub progressed : progress_of M fs vs n r ≡ p
  pub onward : Onward M fs vs r
