-- Inheritance by Warshall's closure: ways whose classes in between are among the first k, from those with none in between on.
-- Assumes nothing.
use Rattle.std.specs.Prelude.{ℕ, zero, suc, Bool, ◌&&◌, ◌||◌, List, eqb}
use Rattle.rules.specs.Bounded.{any}

-- a way from a to b, or one to k and on
abbrev pub joined_at : (ℕ → ℕ → Bool) → ℕ → ℕ → ℕ → Bool
joined_at way k a b = way a b || (way a k && way k b)

-- by one or more steps, with all classes in between below k
unfoldable pub through : (ℕ → List ℕ) → ℕ → ℕ → ℕ → Bool
through parents zero a b = any (eqb b) (parents a)
through parents (suc k) a b = joined_at (through parents k) k a b
