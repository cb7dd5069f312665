-- The tuple that the check names (M 6.4): the first for which the rule fails, by class numbers, the leftmost place turning slowest.
-- Assumes nothing.
use Rattle.std.specs.Prelude.{ℕ, ◌<◌, ◌≡◌, true, false, List, ◌∷◌}
use Rattle.rules.specs.Model.{Model}
use Rattle.rules.specs.Coverage.{judge, failing, Below}

-- one tuple comes before another: at the leftmost place where they differ it has the lower class number
pub data Before : List ℕ → List ℕ → Type 0 where
  here : {a b : ℕ} {xs ys : List ℕ} → a < b → Before (a ∷ xs) (b ∷ ys)
  later : {a : ℕ} {xs ys : List ℕ} → Before xs ys → Before (a ∷ xs) (a ∷ ys)

-- the rule of signature s fails for a tuple of concrete classes that s covers, and for none of those before it
pub record FirstBroken (M : Model) (s : ℕ) (args : List ℕ) : Type 0 where
  pub tuple : Below M (M.sig_args s) args
  pub broken : failing (judge M s args) ≡ true
  pub first : (earlier : List ℕ) → Below M (M.sig_args s) earlier → Before earlier args → failing (judge M s earlier) ≡ false
