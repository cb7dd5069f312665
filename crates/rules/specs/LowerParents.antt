-- Bundles in which every listed parent has a lower number than its class, as number 4 asks. For laws alone (`proofs/LowerParents`): such a bundle opens, or is refused,
-- as it would with classes in any order. No contract cites this file.
-- Assumes nothing.
use Rattle.std.specs.Prelude.{ℕ, ◌<◌, ◌≡◌, Bool, true, List, ltb}
use Rattle.rules.specs.Bounded.{every}
use Rattle.rules.specs.Layout.{parents_of, class_count}

unfoldable pub lower_parents : List ℕ → ℕ → Bool
lower_parents b c = every (λ p. ltb p c) (parents_of b c)

-- every class stands after its parents
abbrev pub ParentsFirst : List ℕ → Type 0
ParentsFirst b = (c : ℕ) → c < class_count b → lower_parents b c ≡ true
