-- What a send fails by: the number, and the methods that are named beside it.
-- Assumes nothing.
use Rattle.std.specs.Prelude.{ℕ, List, [], ◌∷◌}
use Rattle.rules.specs.Numbers as numbers
use Rattle.rules.specs.Lookup as rules
use Rattle.answers.specs.declared.failure.NotFound as not-found-type
use Rattle.answers.specs.declared.failure.NotFound.TheVariants.{Missing, Ambiguous}
use Rattle.answers.specs.declared.failure.Failure as failure-type
use Rattle.answers.specs.declared.failure.Failure.TheVariants.{Lookup, Declared, Result}

-- lookup's failure, in the words of the rules
abbrev pub not_found : not-found-type.NotFound → rules.Found
not_found Missing = rules.missing
not_found (Ambiguous m n) = rules.ambiguous m n

abbrev pub not_found_number : not-found-type.NotFound → ℕ
not_found_number Missing = numbers.no_method
not_found_number (Ambiguous m n) = numbers.ambiguous

-- the number of a resend that has no target
abbrev pub resend_number : not-found-type.NotFound → ℕ
resend_number Missing = numbers.no_overridden
resend_number (Ambiguous m n) = numbers.ambiguous_resend

abbrev pub not_found_methods : not-found-type.NotFound → List ℕ
not_found_methods Missing = []
not_found_methods (Ambiguous m n) = m ∷ n ∷ []

abbrev pub failure_number : failure-type.Failure → ℕ
failure_number (Lookup x) = not_found_number x
failure_number (Declared m) = numbers.narrow_declared
failure_number (Result m) = numbers.wide_result

abbrev pub failure_methods : failure-type.Failure → List ℕ
failure_methods (Lookup x) = not_found_methods x
failure_methods (Declared m) = m ∷ []
failure_methods (Result m) = m ∷ []
