-- Opening by rules in an order: the first that a record breaks gives the answer, and where none is broken the bundle opens.
-- Assumes nothing.
use Prim.Native.Nat.{ℕ, zero, suc, ◌<◌}
use native.Mathlib.Omega.{arith}
use mathlib.Core.Path.{◌≡◌, refl, sym, ap, ◌∙◌}
use mathlib.Core.Bool.{true, ◌&&◌}
use mathlib.Core.List.{List, [], ◌∷◌}
use mathlib.Core.Option as math
use mathlib.Core.Option.{none, some}
use Rattle.std.proofs.Common.{Option}
use lib.ListN.{length, get_or}
use Rattle.rules.specs.Layout.{gives, refuses, require, require_each, size_rule, chain_rule, whole_rule, limit_rule, opening, class_count, function_count, signature_count, method_count}
use Rattle.answers.specs.declared.opening.Rule as rule-type
use Rattle.answers.specs.declared.opening.Rule.TheVariants.{Code}
use Rattle.answers.specs.Opening.{rule_number}
use Rattle.bundle_rules.specs.Rules.{lowest_of, lowest_broken, Presumed, order, opening_by}

-- no record breaks one of the first i rules
abbrev pub Kept : List rule-type.Rule → ℕ → List ℕ → Type 0
Kept rules i b = (j : ℕ) → j < i → lowest_broken (get_or rules j Code) b ≡ none

pub first_broken : (rules : List rule-type.Rule) (i k : ℕ) (b : List ℕ) → i < length rules → Kept rules i b
    → lowest_broken (get_or rules i Code) b ≡ some k → opening_by rules b ≡ refuses (rule_number (get_or rules i Code)) (k ∷ [])
unfolding opening_by require_each
first_broken [] i k b l h e = absurd (omega arith)
first_broken (rule ∷ rest) zero k b l h e = rw e
first_broken (rule ∷ rest) (suc i) k b l h e =
    rw (h 0 (omega arith)) (first_broken rest i k b (omega arith) (λ j m. h (suc j) (omega arith)) e)

pub none_broken : (rules : List rule-type.Rule) (b : List ℕ) → Kept rules (length rules) b
    → opening_by rules b ≡ gives (class_count b ∷ function_count b ∷ signature_count b ∷ method_count b ∷ [])
unfolding opening_by require_each
none_broken [] b h = refl
none_broken (rule ∷ rest) b h = rw (h 0 (omega arith)) (none_broken rest b (λ j m. h (suc j) (omega arith)))

-- what a search answered, once its outcome is known
pub answered : {r o : Option ℕ} {x : math.Option ℕ} → lowest_of r ≡ x → r ≡ o → x ≡ lowest_of o
answered q e = sym q ∙ ap lowest_of e

-- what a rule presumes is what the rules before it say
pub presumed : (i : ℕ) (b : List ℕ) → i < length order → Kept order i b → Presumed (get_or order i Code) b
presumed zero b l h = tt
presumed (suc zero) b l h = tt
presumed (suc (suc zero)) b l h = tt
presumed (suc (suc (suc zero))) b l h = tt
presumed (suc (suc (suc (suc zero)))) b l h = tt
presumed (suc (suc (suc (suc (suc zero))))) b l h = h 3 (omega arith)
presumed (suc (suc (suc (suc (suc (suc i)))))) b l h = absurd (omega arith)

-- with numbers 1 to 3 kept, the rules on records decide
pub tried_before : (b : List ℕ) → size_rule b ≡ true → (chain_rule b && whole_rule b) ≡ true → limit_rule b ≡ true → opening_by order b ≡ opening b
unfolding opening require opening_by
tried_before b size directory limits = rw (size, directory, limits) refl
