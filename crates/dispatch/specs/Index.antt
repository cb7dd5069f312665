-- The index of the methods: an entry for each function and for each method, by which the methods of a function are found one after the other.
-- Assumes nothing.
use Rattle.std.specs.Prelude.{ℕ, ◌+◌, ◌≤◌, ◌<◌, ◌≡◌, List, length, get_or, Option, Some, None}
use mathlib.Core.Path.{ap}
use denote.Struct.Props.{props}
use Rattle.rules.specs.Layout.{max_functions, max_methods}
use Rattle.rules.specs.Model.{Model}

-- the number of a method, or the count of methods where there is none
abbrev pub number_or_count : Model → Option ℕ → ℕ
number_or_count M None = M.methods
number_or_count M (Some m) = m

-- the lowest method from number k on that is one of function f, where there is one
pub record NextMethod (M : Model) (f k : ℕ) (next : Option ℕ) : Type 0 where
  pub found : (m : ℕ) → next ≡ Some m → (m < M.methods) × (k ≤ m) × (M.function m ≡ f)
  pub lowest : (j : ℕ) → k ≤ j → j < number_or_count M next → M.function j ≡ f → ⊥

-- the entries of the functions lead to their methods from number k on, and those of these methods to the next ones
pub record IndexedFrom (M : Model) (first next : List (Option ℕ)) (k : ℕ) : Type 0 where
  pub functions : length first ≡ max_functions
  pub methods : length next ≡ max_methods
  pub begins : (f : ℕ) → f < max_functions → NextMethod M f k (get_or first f None)
  pub goes_on : (m : ℕ) → k ≤ m → m < max_methods → NextMethod M (M.function m) (m + 1) (get_or next m None)

-- all of it is there; a data type, so that proofs pass it on whole
pub data Indexed (M : Model) (first next : List (Option ℕ)) : Type 0 where
  indexed : IndexedFrom M first next 0 → Indexed M first next

-- there is one proof of it at most, so that a value can carry it
pub Indexed-prop : (M : Model) (first next : List (Option ℕ)) → IsProp (Indexed M first next)
Indexed-prop M first next (indexed x) (indexed y) = let from : IsProp (IndexedFrom M first next 0) = hlevel props in ap indexed (from x y)
