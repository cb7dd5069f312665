-- A send as a caller passes it.
-- Assumes nothing.
use Rattle.std.specs.Prelude.{ℕ, ◌≤◌, ◌≡◌, List, length, take}
use Rattle.rules.specs.Model.{Model}
use Rattle.rules.specs.Calls.{used}
use Rattle.subclasses.specs.Places.{Arguments}

-- these classes are the numbers of a send of f, and the first n of them its arguments
pub record Passes (M : Model) (f : ℕ) (tuple : List ℕ) (n : ℕ) (classes : List ℕ) : Type 0 where
  pub whole : classes ≡ tuple
  pub within : n ≤ length classes
  pub same : take n classes ≡ used M f tuple
  pub arguments : Arguments M f (take n classes)
