-- The rules on records by their names in the code, and what a search for the lowest broken one finds.
-- Assumes nothing.
use Rattle.std.specs.Prelude.{ℕ, ◌≡◌, Bool, List, [], ◌∷◌}
use Rattle.std.proofs.Common.{Option, None, Some}
use Rattle.std.proofs.Math.Option as math
use Rattle.std.proofs.Math.Option.{none, some}
use Rattle.rules.specs.Layout.{Answer, gives, require_each, list_length, body_length, class_rule, function_rule, signature_rule, method_rule, twin_rule, code_rule, class_count, function_count, signature_count, method_count, lowest}
use Rattle.answers.specs.Opening.{rule_number}
use Rattle.answers.specs.declared.opening.Rule as rule-type
use Rattle.answers.specs.declared.opening.Rule.TheVariants.{Class, Function, Signature, Method, Twin, Code}

-- what a search answered, in the words of the rules
abbrev pub lowest_of : Option ℕ → math.Option ℕ
lowest_of (Some k) = some k
lowest_of None = none

abbrev pub rule_of : rule-type.Rule → List ℕ → ℕ → Bool
rule_of Class = class_rule
rule_of Function = function_rule
rule_of Signature = signature_rule
rule_of Method = method_rule
rule_of Twin = twin_rule
rule_of Code = code_rule

-- how many records the rule is for
abbrev pub count_of : rule-type.Rule → List ℕ → ℕ
count_of Class = class_count
count_of Function = function_count
count_of Signature = signature_count
count_of Method = method_count
count_of Twin = method_count
count_of Code = method_count

-- the lowest record that breaks the rule
abbrev pub lowest_broken : rule-type.Rule → List ℕ → math.Option ℕ
lowest_broken rule b = lowest (rule_of rule b) (count_of rule b)

-- how many bytes the list or body of a record has, where the rule is about one
abbrev pub size_of : rule-type.Rule → List ℕ → ℕ → ℕ
size_of Class b = list_length b
size_of Function b = λ k. 0
size_of Signature b = λ k. 0
size_of Method b = body_length b
size_of Twin b = λ k. 0
size_of Code b = λ k. 0

-- What must hold before the rule is asked: code is read only where every method keeps its own rule.
abbrev pub Presumed : rule-type.Rule → List ℕ → Type 0
Presumed Class b = Unit
Presumed Function b = Unit
Presumed Signature b = Unit
Presumed Method b = Unit
Presumed Twin b = Unit
Presumed Code b = lowest_broken Method b ≡ none

-- the rules on records in the order of their numbers
abbrev pub order : List rule-type.Rule
order = Class ∷ Function ∷ Signature ∷ Method ∷ Twin ∷ Code ∷ []

-- `opening` where only these rules are left to try
unfoldable pub opening_by : List rule-type.Rule → List ℕ → Answer (List ℕ)
opening_by [] b = gives (class_count b ∷ function_count b ∷ signature_count b ∷ method_count b ∷ [])
opening_by (rule ∷ rest) b = require_each (lowest_broken rule b) (rule_number rule) (opening_by rest b)
