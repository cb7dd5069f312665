-- Ancestry (M 4): when a class is under a class, as a relation and as a test, and how a class stands to another.
-- Assumes nothing.
use Rattle.std.specs.Prelude.{ℕ, zero, suc, Bool, true, false, ◌||◌, eqb}
use mathlib.Core.List.{List, Memᴰ}
use Rattle.rules.specs.Bounded.{any, matching}
use Rattle.rules.specs.Model.{Model}

-- a class is under itself, and under what one of its parents is under (M 4.1)
pub data Under (M : Model) : ℕ → ℕ → Type 0 where
  itself : {a : ℕ} → Under M a a
  parent : {a p b : ℕ} → Memᴰ p (M.parents a) → Under M p b → Under M a b

-- the same in at most so many steps from child to parent
unfoldable pub subclass_within : Model → ℕ → ℕ → ℕ → Bool
subclass_within M zero a b = eqb a b
subclass_within M (suc steps) a b = eqb a b || any (λ p. subclass_within M steps p b) (M.parents a)

-- No line of parents passes more classes than there are.
unfoldable pub subclass : Model → ℕ → ℕ → Bool
subclass M a b = subclass_within M M.classes a b

-- each class of the first list is under the class at its place in the second
unfoldable pub under : Model → List ℕ → List ℕ → Bool
under M = matching (subclass M)

-- A class is the same as another, an heir of it, which is under it and not the same, or neither (M 4.2).
pub data Ancestry : Type 0 where
  same : Ancestry
  heir : Ancestry
  neither : Ancestry

-- what two tests come to: that the one class is under the other, and that their numbers are equal
unfoldable pub ancestry_by : Bool → Bool → Ancestry
ancestry_by true true = same
ancestry_by true false = heir
ancestry_by false equal = neither

unfoldable pub ancestry : Model → ℕ → ℕ → Ancestry
ancestry M a b = ancestry_by (subclass M a b) (eqb a b)

-- the one class is under the other
unfoldable pub is_under : Ancestry → Bool
is_under same = true
is_under heir = true
is_under neither = false
