-- A method by how many arguments its function has.
-- Assumes nothing.
use Rattle.std.specs.Prelude.{ℕ, ◌<◌, ◌≡◌}
use Rattle.rules.specs.Model.{Model}

-- m is a method, of a function with n arguments
pub record OfArity (M : Model) (n m : ℕ) : Type 0 where
  pub bound : m < M.methods
  pub arity : n ≡ M.arity (M.function m)
