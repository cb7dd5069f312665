-- The run of a send for a caller that has no branch for a send that finds no method, or two (M 9.3): the bundle is checked, and the send has to be covered,
-- before anything runs.
-- Assumes nothing.
use Rattle.std.specs.Prelude.{ℕ, ◌≡◌, Bool, true, false, List}
use Rattle.rules.specs.Numbers as numbers
use Rattle.rules.specs.Bounded.{every}
use Rattle.rules.specs.Layout.{Answer, gives, refuses, require}
use Rattle.rules.specs.Model.{Model, model_of}
use Rattle.rules.specs.Coverage.{concrete_class, is_covered, verdict}
use Rattle.rules.specs.Machine.{Outcome, run}
use Rattle.rules.specs.Calls.{with_scratch, send_rule, used, run_rule, check_call, run_call}
use Rattle.rules.specs.Sound.{Covering, SoundEnding, SoundRun}

-- The run with its outcome; the number and values of the check, which did not accept; or no signature covers the opening send.
pub data Accepted : Type 0 where
  ended : Outcome → Accepted
  not_accepted : ℕ → List ℕ → Accepted
  not_covered : Accepted

-- by the verdict, by whether some signature covers the send, and by the run
unfoldable pub accepted_by : Answer (Unit {0}) → Bool → Outcome → Accepted
accepted_by (refuses number values) covered o = not_accepted number values
accepted_by (gives accepted) false o = not_covered
accepted_by (gives accepted) true o = ended o

unfoldable pub accepted_in : ℕ → List ℕ → ℕ → Model → Answer Accepted
accepted_in f tuple count M =
    require (run_rule M f tuple) numbers.absent
    (gives (accepted_by (verdict M) (is_covered M f (used M f tuple)) (run M f (used M f tuple) count).outcome))

-- the call: 1 to 9, 19 and 18 as for a run
unfoldable pub accepted_call : List ℕ → ℕ → ℕ → List ℕ → ℕ → Answer Accepted
accepted_call b scratch f tuple count = with_scratch b scratch (accepted_in f tuple count)

-- An opening send that some signature of its function covers, with concrete classes and 0 at unused places.
pub record CoveredOpening (M : Model) (f : ℕ) (tuple : List ℕ) : Type 0 where
  pub kept : send_rule M f tuple ≡ true
  pub concrete : every (concrete_class M) (used M f tuple) ≡ true
  pub signature : ℕ
  pub covering : Covering M f (used M f tuple) signature

-- The run is sound from its opening send to its end: every send that it meets is covered, is judged to hold at every signature that covers it, and finds
-- one method by the checker's judgement, by the run and by lookup, whose declared classes hold the arguments; for every resend there is one method to go to,
-- and each argument is under its specialiser and its declared class; it ends Spent, Deep, or with a concrete class under the result class of every signature
-- that covers the opening send. The answer is how this run ended, with its steps.
pub record SoundAnswer (M : Model) (f : ℕ) (tuple : List ℕ) (count : ℕ) (r : Answer Outcome) : Type 0 where
  pub whole : SoundRun M f (used M f tuple) (run M f (used M f tuple) count)
  pub answer : r ≡ gives (run M f (used M f tuple) count).outcome

-- The check accepts, some signature covers the opening send, the run ends so, and it is sound from its opening send to this end: a value is a concrete class
-- under the result class of every signature that covers the opening send.
pub record SoundEnd (b : List ℕ) (scratch f : ℕ) (tuple : List ℕ) (count : ℕ) (o : Outcome) : Type 0 where
  pub accepted : check_call b scratch ≡ gives tt
  pub covered : CoveredOpening (model_of b) f tuple
  pub ended : run_call b scratch f tuple count ≡ gives o
  pub sound : SoundAnswer (model_of b) f tuple count (gives o)
  pub ending : SoundEnding (model_of b) f (used (model_of b) f tuple) o.ending
