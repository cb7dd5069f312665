-- The coverage rule for one tuple, by what the code asks: the declared classes, then the result class.
-- Assumes nothing.
use Prim.Native.Nat.{ℕ}
use mathlib.Core.Path.{◌≡◌, refl, ap, ◌∙◌}
use mathlib.Core.Bool.{true, false}
use mathlib.Core.List.{List, [], ◌∷◌, ◌++◌}
use Rattle.std.specs.Prelude.{Result, Ok, Err, is_err}
use Rattle.rules.specs.Numbers as numbers
use Rattle.rules.specs.Layout.{gives, refuses, padded}
use Rattle.rules.specs.Model.{Model}
use Rattle.rules.specs.Subclass.{subclass}
use Rattle.rules.specs.Lookup.{Found, found, lookup}
use Rattle.rules.specs.Coverage.{Judgement, declared_hold, holds, fails, judge_found, judge, failing, coverage_refusal}
use Rattle.answers.specs.declared.failure.NotFound.{NotFound}
use Rattle.answers.specs.declared.failure.NotFound.TheVariants.{Missing, Ambiguous}
use Rattle.answers.specs.declared.failure.Failure.{Failure}
use Rattle.coverage_rule.specs.Judgements.{judgement_of}
use Rattle.answers.specs.Failures.{not_found, not_found_number, not_found_methods}

module _ (M : Model) (s : ℕ) (args : List ℕ) (m : ℕ) where
  -- the reasons to fail are tried in the order of their numbers
  pub judge_declared : declared_hold M m args ≡ false → fails numbers.narrow_declared (m ∷ []) ≡ judge_found M s args (found m)
  unfolding judge_found
  judge_declared e = rw e

  pub judge_result : declared_hold M m args ≡ true → subclass M (M.result m) (M.sig_result s) ≡ false
      → fails numbers.wide_result (m ∷ []) ≡ judge_found M s args (found m)
  unfolding judge_found
  judge_result e u = rw (e, u)

  pub judge_both : declared_hold M m args ≡ true → subclass M (M.result m) (M.sig_result s) ≡ true
      → holds m ≡ judge_found M s args (found m)
  unfolding judge_found
  judge_both e u = rw (e, u)

-- where lookup fails, the rule fails by the same
pub judge_not_found : (M : Model) (s : ℕ) (args : List ℕ) (x : NotFound) → fails (not_found_number x) (not_found_methods x) ≡ judge_found M s args (not_found x)
unfolding judge_found
judge_not_found M s args Missing = refl
judge_not_found M s args (Ambiguous m n) = refl

-- the rule goes by what lookup finds for the signature's function
pub judge_by : (M : Model) (s : ℕ) (args : List ℕ) {r : Found} {j : Judgement} → r ≡ lookup M (M.sig_function s) args → j ≡ judge_found M s args r
    → j ≡ judge M s args
unfolding judge
judge_by M s args e q = q ∙ ap (judge_found M s args) e

-- the refusal of a tuple, by its judgement: there is none where the rule holds
module _ (M : Model) (s : ℕ) (args : List ℕ) where
  pub not_refused : {m : ℕ} → holds m ≡ judge M s args → gives tt ≡ coverage_refusal M s args (judge M s args)
  unfolding coverage_refusal
  not_refused e = rw (← e)

  pub is_refused : {number : ℕ} {ms values : List ℕ} → values ≡ M.sig_function s ∷ padded args → fails number ms ≡ judge M s args
      → refuses number (s ∷ values ++ ms) ≡ coverage_refusal M s args (judge M s args)
  unfolding coverage_refusal
  is_refused v e = rw (← e, v)

-- a tuple at which the rule fails is answered by an error
pub failing_error : (j : Result ℕ Failure) → is_err j ≡ failing (judgement_of j)
unfolding failing
failing_error (Ok m) = refl
failing_error (Err x) = refl
