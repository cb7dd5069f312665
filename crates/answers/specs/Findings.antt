-- What a verdict says: the number and values of each finding.
-- Assumes nothing.
use Rattle.std.specs.Prelude.{ℕ, List, [], ◌∷◌, ◌++◌, Result, Ok, Err}
use Rattle.rules.specs.Numbers as numbers
use Rattle.rules.specs.Layout.{Answer, gives, refuses}
use Rattle.answers.specs.declared.finding.CoverageFinding as coverage-type
use Rattle.answers.specs.declared.finding.Finding as finding-type
use Rattle.answers.specs.declared.finding.Finding.TheVariants.{Layout, Scratch, Coverage, Body}
use Rattle.answers.specs.Numbers.{code_of}
use Rattle.answers.specs.Send.{send_values}
use Rattle.answers.specs.Opening.{layout_number, layout_values}
use Rattle.answers.specs.Failures.{failure_number, failure_methods}

-- the signature, the send, and the methods
abbrev pub coverage_values : coverage-type.CoverageFinding → List ℕ
coverage_values c = c.signature ∷ send_values c.send ++ failure_methods c.failure

abbrev pub coverage_said : coverage-type.CoverageFinding → Answer (Unit {0})
coverage_said c = refuses (failure_number c.failure) (coverage_values c)

abbrev pub finding_number : finding-type.Finding → ℕ
finding_number (Layout f) = layout_number f
finding_number Scratch = numbers.short_scratch
finding_number (Coverage c) = failure_number c.failure
finding_number (Body x) = code_of x.number

abbrev pub finding_values : finding-type.Finding → List ℕ
finding_values (Layout f) = layout_values f
finding_values Scratch = []
finding_values (Coverage c) = coverage_values c
finding_values (Body x) = x.method ∷ x.instruction ∷ []

-- the verdict of a check: accepted, or refused by what was found
abbrev pub verdict_said : Result (Unit {0}) finding-type.Finding → Answer (Unit {0})
verdict_said (Ok x) = gives tt
verdict_said (Err f) = refuses (finding_number f) (finding_values f)
