-- What the answer of a lookup says, in the words of the rules.
-- Assumes nothing.
use Rattle.std.specs.Prelude.{ℕ, Result, Ok, Err}
use Rattle.rules.specs.Lookup as rules
use Rattle.answers.specs.declared.failure.NotFound.{NotFound}
use Rattle.answers.specs.Failures.{not_found}

abbrev pub found_of : Result ℕ NotFound → rules.Found
found_of (Ok m) = rules.found m
found_of (Err x) = not_found x
