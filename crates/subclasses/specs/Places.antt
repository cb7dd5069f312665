-- Classes by places: the arguments of a send, and tuples that are compared place by place.
-- Assumes nothing.
use Rattle.std.specs.Prelude.{ℕ, ◌<◌, ◌≤◌, ◌≡◌, true, List, length, get_or}
use Rattle.rules.specs.Layout.{max_classes}
use Rattle.rules.specs.Model.{Model, present}
use Rattle.rules.specs.Scratch.{scratch_bytes}

-- the arguments of a send of function f: as many classes of the bundle as it has places
pub record Arguments (M : Model) (f : ℕ) (args : List ℕ) : Type 0 where
  pub function : f < M.functions
  pub arity : length args ≡ M.arity f
  pub classes : present M args ≡ true

-- each class has a row and a column in the matrix
abbrev pub InMatrix : List ℕ → Type 0
InMatrix xs = (i : ℕ) → i < length xs → get_or xs i 0 < max_classes

-- two tuples that the matrix can compare
pub record Comparable (s xs ys : List ℕ) : Type 0 where
  pub long : scratch_bytes ≤ length s
  pub even : length xs ≡ length ys
  pub lower : InMatrix xs
  pub upper : InMatrix ys
