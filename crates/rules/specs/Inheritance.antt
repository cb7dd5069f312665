-- Inheritance as a graph (M 4.1): what a class reaches by steps from child to parent, and whether it inherits from a class, which may be itself. Over any function
-- that gives the parents of a class, so that bytes are asked before they have opened and a model afterwards.
-- Assumes nothing.
use Rattle.std.specs.Prelude.{ℕ, zero, suc, Bool, ◌||◌, eqb}
use mathlib.Core.List.{List, Memᴰ}
use Rattle.rules.specs.Bounded.{any}

module _ (parents : ℕ → List ℕ) where
  -- by zero or more steps
  pub data Reaches : ℕ → ℕ → Type 0 where
    itself : {a : ℕ} → Reaches a a
    parent : {a p b : ℕ} → Memᴰ p (parents a) → Reaches p b → Reaches a b

  -- by one or more; a class that inherits from itself lies on a cycle
  abbrev pub Inherits : ℕ → ℕ → Type 0
  Inherits a b = (p : ℕ) × Memᴰ p (parents a) × Reaches p b

  -- by so many steps at the most
  unfoldable pub reaches_within : ℕ → ℕ → ℕ → Bool
  reaches_within zero a b = eqb a b
  reaches_within (suc steps) a b = eqb a b || any (λ p. reaches_within steps p b) (parents a)

  -- Among n classes as many steps are enough: a way that takes more comes to a class twice.
  unfoldable pub reaches : ℕ → ℕ → ℕ → Bool
  reaches n a b = reaches_within n a b

  unfoldable pub inherits : ℕ → ℕ → ℕ → Bool
  inherits n a b = any (λ p. reaches n p b) (parents a)
