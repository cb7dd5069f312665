-- Classes in an order in which each stands after its parents, and how far a walk has come in making one. Over any function that gives the parents of a class.
-- Assumes nothing.
use Rattle.std.specs.Prelude.{ℕ, ◌≤◌, ◌<◌, ◌≡◌, Bool, true, false, not, ltb, length, get_or, Option, Some, None}
use mathlib.Core.List.{List, Memᴰ}
use Rattle.std.proofs.Math.Option as math
use Rattle.rules.specs.Bounded.{upto, every, keep, first}
use Rattle.rules.specs.Layout.{max_classes}
use Rattle.rules.specs.Inheritance.{inherits}

-- class c is marked as placed
abbrev pub is_placed : List Bool → ℕ → Bool
is_placed placed c = get_or placed c false

module _ (parents : ℕ → List ℕ) where
  -- the parents of class c have lower numbers
  unfoldable pub lower : ℕ → Bool
  lower c = every (λ p. ltb p c) (parents c)

  unfoldable pub in_number_order : ℕ → Bool
  in_number_order n = every lower (upto n)

  -- the first parent of class c that is not placed
  unfoldable pub waiting : List Bool → ℕ → math.Option ℕ
  waiting placed c = first (λ p. not (is_placed placed p)) (parents c)

  -- no class inherits from itself
  abbrev pub Acyclic : ℕ → Type 0
  Acyclic n = (c : ℕ) → c < n → inherits parents n c c ≡ false

  -- classes stand in a list, each after its parents
  pub record ParentsFirst (n : ℕ) (classes : List ℕ) : Type 0 where
    pub present : (i : ℕ) → i < length classes → get_or classes i 0 < n
    pub after : (i : ℕ) → i < length classes → (p : ℕ) → Memᴰ p (parents (get_or classes i 0)) → (j : ℕ) × (j < i) × (get_or classes j 0 ≡ p)

  -- these are marked and no others, and no more than are marked
  pub record Placing (n : ℕ) (classes : List ℕ) (placed : List Bool) : Type 0 where
    pub long : length placed ≡ max_classes
    pub ordered : ParentsFirst n classes
    pub listed : (c : ℕ) → c < n → is_placed placed c ≡ true → (i : ℕ) × (i < length classes) × (get_or classes i 0 ≡ c)
    pub few : length classes ≤ length (keep (is_placed placed) (upto n))

  -- A walk from class c that ends has placed it, and what was placed still is; where there is no cycle none is met.
  abbrev pub Walked : ℕ → ℕ → List Bool → Option (Unit {0}) → List ℕ → List Bool → Type 0
  Walked n c before (Some u) classes placed =
      Placing n classes placed × (is_placed placed c ≡ true) × ((d : ℕ) → d < n → is_placed before d ≡ true → is_placed placed d ≡ true)
  Walked n c before None classes placed = Acyclic n → ⊥

  -- every class stands in the list
  pub record Whole (n : ℕ) (classes : List ℕ) : Type 0 where
    pub ordered : ParentsFirst n classes
    pub limit : length classes ≤ n
    pub all : (c : ℕ) → c < n → (i : ℕ) × (i < length classes) × (get_or classes i 0 ≡ c)
