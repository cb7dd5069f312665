-- The search for a tuple at which the answer to a question is no, with the first places of the tuple filled.
-- Assumes nothing.
use Rattle.std.specs.Prelude.{ℕ, ◌≤◌, ◌<◌, ◌≡◌, Bool, true, false, List, [], ◌++◌, length, take}
use Rattle.std.specs.Prelude as std
use mathlib.Core.Logic.{∥∥₁_prop}
use Rattle.std.proofs.Math.Option.{Option, none, some}
use Rattle.rules.specs.Bounded.{first}
use Rattle.rules.specs.Layout.{padded}
use Rattle.rules.specs.Model.{Model, present}
use Rattle.rules.specs.Lookup.{left}
use Rattle.rules.specs.Coverage.{tuples}
use Rattle.rules.specs.Bits.{in_set}
use Rattle.method_sets.specs.Sets.{method_at, Ordered, Tabled}
use Rattle.tuple_search.specs.declared.question.Question.{Question}
use Rattle.tuple_search.specs.Questions.{About, function_of, stops_at, by_declared}

-- the first of the tuples below the classes `rest` that complete the filled places to one at which the search stops
unfoldable pub stop_in : Model → Question → List ℕ → List ℕ → Option (List ℕ)
stop_in M q filled rest = first (λ t. stops_at M q (filled ++ t)) (tuples M rest)

-- What a search goes by: the order, the table of specialisers, and the table of the classes by which the question tells methods apart beside them. For a
-- question that goes by specialisers alone this is the first table again.
pub record Tables (M : Model) (q : Question) (order admits holds : List ℕ) : Type 0 where
  pub ordered : Ordered M order
  pub admitting : Tabled false M order admits
  pub holding : Tabled (by_declared q) M order holds

-- a question about the bundle goes by these; which proof there is of it is forgotten, so that a value can carry it
abbrev pub GoesBy : Model → Question → List ℕ → List ℕ → List ℕ → Type 0
GoesBy M q order admits holds = ∥ About M q × Tables M q order admits holds ∥₁

pub GoesBy-prop : (M : Model) (q : Question) (order admits holds : List ℕ) → IsProp (GoesBy M q order admits holds)
GoesBy-prop M q order admits holds = ∥∥₁_prop

-- The first places of a tuple are filled; the set holds the methods that are left.
pub record Filling (M : Model) (q : Question) (place : ℕ) (chosen order set : List ℕ) : Type 0 where
  pub about : About M q
  pub arity : length chosen ≡ M.arity (function_of M q)
  pub within : place ≤ length chosen
  pub classes : present M (take place chosen) ≡ true
  pub methods : (i : ℕ) → i < M.methods → in_set set 0 i ≡ left M (function_of M q) (take place chosen) (method_at order i)

-- A search ends: at none of the tuples it stops, and the places are as they were; or it stopped at the first, which is left.
abbrev pub Ends : Model → Question → List ℕ → List ℕ → List ℕ → List ℕ → Bool → Type 0
Ends M q filled rest old new false = (stop_in M q filled rest ≡ none) × (new ≡ old)
Ends M q filled rest old new true = (t : List ℕ) × (stop_in M q filled rest ≡ some t) × (new ≡ filled ++ t)

-- With no place filled before: it stops at none of the tuples below the upper classes, or at the first, which an array has at its first places. The places
-- behind are 0.
abbrev pub FirstStop : Model → Question → List ℕ → std.Option (List ℕ) → Type 0
FirstStop M q upper std.None = stop_in M q [] upper ≡ none
FirstStop M q upper (std.Some tuple) = (t : List ℕ) × (stop_in M q [] upper ≡ some t) × (tuple ≡ padded t)
