-- What the answer of each question says.
-- Assumes nothing.
use Rattle.std.specs.Prelude.{[], ◌++◌, Result, Ok, Err}
use Rattle.rules.specs.Numbers as numbers
use Rattle.rules.specs.Layout.{Answer, gives, refuses}
use Rattle.rules.specs.Subclass as rules
use Rattle.rules.specs.Calls.{Match}
use Rattle.answers.specs.Send.{send_values}
use Rattle.answers.specs.Failures.{not_found_number, not_found_methods}
use Rattle.answers.specs.declared.refusal.Refusal.{Refusal}
use Rattle.answers.specs.Refusals.{refusal_said}
use Rattle.subclasses.specs.declared.matrix.Ancestry.{Ancestry}
use Rattle.subclasses.specs.Ancestry.{ancestry_of}
use Rattle.questions.specs.declared.lookup.Match as match-type
use Rattle.questions.specs.declared.lookup.LookupError as lookup-error
use Rattle.questions.specs.declared.lookup.LookupError.TheVariants as lookup
use Rattle.questions.specs.declared.send_type.SendTypeError as send-type-error
use Rattle.questions.specs.declared.send_type.SendTypeError.TheVariants as send-type

abbrev pub ancestry_said : Result Ancestry Refusal → Answer rules.Ancestry
ancestry_said (Ok a) = gives (ancestry_of a)
ancestry_said (Err r) = refusal_said r

abbrev pub lookup_said : Result match-type.Match lookup-error.LookupError → Answer Match
lookup_said (Ok m) = gives (record { method = m.method; is_exact = m.exact })
lookup_said (Err (lookup.Fails s x)) = refuses (not_found_number x) (send_values s ++ not_found_methods x)
lookup_said (Err (lookup.Refused r)) = refusal_said r

-- the type itself is in the row, so the answer alone says only that there is one
abbrev pub blank : {A : Type 0} → Answer A → Answer (Unit {0})
blank (gives t) = gives tt
blank (refuses number values) = refuses number values

abbrev pub send_type_said : Result (Unit {0}) send-type-error.SendTypeError → Answer (Unit {0})
send_type_said (Ok x) = gives tt
send_type_said (Err send-type.Unlicensed) = refuses numbers.no_licence []
send_type_said (Err (send-type.Refused r)) = refusal_said r
