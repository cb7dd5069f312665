-- What the judgement of a tuple says, in the words of the rules.
-- Assumes nothing.
use Rattle.std.specs.Prelude.{ℕ, Result, Ok, Err}
use Rattle.rules.specs.Coverage as rules
use Rattle.answers.specs.declared.failure.Failure.{Failure}
use Rattle.answers.specs.Failures.{failure_number, failure_methods}

-- the rule holds with a method, or fails
abbrev pub judgement_of : Result ℕ Failure → rules.Judgement
judgement_of (Ok m) = rules.holds m
judgement_of (Err x) = rules.fails (failure_number x) (failure_methods x)
