-- What the answers of the stepper say, in the words of the rules.
-- Assumes nothing.
use Rattle.std.specs.Prelude.{ℕ, ◌<◌, ◌≡◌, List, [], ◌∷◌, ◌++◌, Result, Ok, Err}
use Rattle.rules.specs.Model.{Model}
use Rattle.rules.specs.Machine as rules
use Rattle.answers.specs.Numbers.{code_of}
use Rattle.answers.specs.Send.{send_values}
use Rattle.answers.specs.Failures.{failure_number, failure_methods}
use Rattle.frames.specs.Arrays.{begun, given}
use Rattle.machine.specs.Held.{frame_of, callers_of, Held}
use Rattle.machine.specs.declared.ending.Ending.{Ending}
use Rattle.machine.specs.declared.ending.Ending.TheVariants as ending

-- the number of an ending, and the values beside it
abbrev pub ending_of : Ending → rules.Ending
ending_of (ending.Value v) = rules.value v
ending_of ending.Spent = rules.spent
ending_of ending.Deep = rules.deep
ending_of (ending.Fails s x) = rules.stopped (failure_number x) (send_values s ++ failure_methods x)
ending_of (ending.Stopped number m at) = rules.stopped (code_of number) (m ∷ at ∷ [])

-- what an instruction comes to, with the frames as the arrays hold them afterwards
abbrev pub turn_of : Model → List ℕ → List ℕ → Result ℕ Ending → rules.Turn
turn_of M fs vs (Ok k) = rules.made (frame_of M fs vs k) (callers_of M fs vs k)
turn_of M fs vs (Err e) = rules.failed (ending_of e)

-- the arrays hold the frame that is left on top
abbrev pub Holding : Model → List ℕ → List ℕ → Result ℕ Ending → Type 0
Holding M fs vs (Ok k) = Held M fs vs k
Holding M fs vs (Err e) = Unit {0}

-- frame k is opened in the arrays, where there is room for it, or it is Deep
abbrev pub Enters : List ℕ → List ℕ → List ℕ → ℕ → ℕ → List ℕ → List ℕ → Result ℕ Ending → Type 0
Enters fs vs args m k fs' vs' (Ok top) = (top ≡ k) × (k < rules.max_frames) × (fs' ≡ begun fs k m) × (vs' ≡ given vs k args)
Enters fs vs args m k fs' vs' (Err e) = (ending_of e ≡ rules.deep) × (k ≡ rules.max_frames)

-- the answer says what the rules say, and the arrays hold what the run goes on with
pub record StepsTo (M : Model) (fs vs : List ℕ) (r : Result ℕ Ending) (t : rules.Turn) : Type 0 where
  pub turned : turn_of M fs vs r ≡ t
  pub holding : Holding M fs vs r
