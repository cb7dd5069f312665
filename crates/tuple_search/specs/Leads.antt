-- The lead of a set of methods, where one is known.
-- Assumes nothing.
use Rattle.std.specs.Prelude.{ℕ, ◌<◌, ◌≡◌, true, List, Option, Some, None, get_or}
use Rattle.rules.specs.Model.{Model}
use Rattle.rules.specs.Subclass.{subclass}
use Rattle.method_sets.specs.Sets.{Member, AboveAll}

-- the lead is one of the methods of the set, and at least as specific as all of them
abbrev pub LedBy : Model → List ℕ → List ℕ → List ℕ → ℕ → Option ℕ → Type 0
LedBy M order admits set n None = Unit {0}
LedBy M order admits set n (Some m) = (m < M.methods) × Member M order set m × AboveAll M admits set n m

-- a lead is handed down only where it applies to the class at the place
abbrev pub HandedDown : Model → ℕ → ℕ → Option ℕ → Option ℕ → Type 0
HandedDown M class place lead None = Unit {0}
HandedDown M class place lead (Some m) = (lead ≡ Some m) × (subclass M class (get_or (M.specialisers m) place 0) ≡ true)
