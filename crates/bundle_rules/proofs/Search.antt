-- What a search for the lowest broken record finds.
-- Assumes nothing.
use Prim.Native.Nat.{ℕ, ◌<◌}
use mathlib.Core.Path.{◌≡◌, sym, ap}
use mathlib.Core.Bool.{Bool, true, false, not}
use mathlib.Core.Option.{some}
use Rattle.rules.specs.Layout.{lowest}
use Rattle.rules.proofs.Lists.{some_lowest}

pub broken_found : (rule : ℕ → Bool) (n k : ℕ) → k < n → rule k ≡ false → ((j : ℕ) → j < k → rule j ≡ true) → some k ≡ lowest rule n
unfolding lowest
broken_found rule n k l e h = sym (some_lowest (λ j. not (rule j)) n k l (ap not e) (λ j i. ap not (h j i)))
