-- Where lookup finds no method.
-- Assumes nothing.
use Prim.Native.Nat.{ℕ}
use mathlib.Core.Path.{◌≡◌, refl, sym}
use mathlib.Core.Bool.{true, false}
use Rattle.std.specs.Prelude.{Result, Ok, Err, is_err}
use Rattle.rules.specs.Rough.{is_method, is_failure}
use Rattle.answers.specs.declared.failure.NotFound.{NotFound}
use Rattle.answers.specs.declared.failure.NotFound.TheVariants.{Missing, Ambiguous}
use Rattle.answers.specs.Failures.{not_found}
use Rattle.dispatch.specs.Found.{found_of}

pub is_failure_lem : (x : NotFound) → is_failure (not_found x) ≡ true
unfolding is_failure
is_failure_lem Missing = refl
is_failure_lem (Ambiguous m n) = refl

pub is_no_method : (m : ℕ) (x : NotFound) → is_method m (not_found x) ≡ false
unfolding is_method
is_no_method m Missing = refl
is_no_method m (Ambiguous n o) = refl

-- an answer of lookup says so
pub err_failure : (r : Result ℕ NotFound) → is_err r ≡ is_failure (found_of r)
unfolding is_failure
err_failure (Ok m) = refl
err_failure (Err x) = sym (is_failure_lem x)
