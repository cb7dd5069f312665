-- Lists of methods of one function.
-- Assumes nothing.
use Rattle.std.specs.Prelude.{ℕ, ◌≡◌, Bool, true, not, ◌&&◌, List, ltb, eqb, Option, Some, None}
use mathlib.Core.Path.{ap}
use denote.Struct.Props.{props}
use Rattle.rules.specs.Bounded.{every, keep}
use Rattle.rules.specs.Model.{Model}
use Rattle.rules.specs.Lookup.{applicable}

-- m is a method of function f
unfoldable pub method_of : Model → ℕ → ℕ → Bool
method_of M f m = ltb m M.methods && eqb (M.function m) f

-- so is each of the list; a data type, so that proofs pass it on whole
pub data Listed (M : Model) (f : ℕ) (ms : List ℕ) : Type 0 where
  listed : every (method_of M f) ms ≡ true → Listed M f ms

-- methods of function f, of n arguments, to choose from
pub record Candidates (M : Model) (f n : ℕ) (ms : List ℕ) : Type 0 where
  pub arity : n ≡ M.arity f
  pub methods : Listed M f ms

-- there is one proof of it at most, so that a value can carry it
Listed-prop : (M : Model) (f : ℕ) (ms : List ℕ) → IsProp (Listed M f ms)
Listed-prop M f ms (listed x) (listed y) = let every-once : IsProp (every (method_of M f) ms ≡ true) = hlevel props in ap listed (every-once x y)

pub Candidates-prop : (M : Model) (f n : ℕ) (ms : List ℕ) → IsProp (Candidates M f n ms)
Candidates-prop M f n ms = hlevel (props, Listed-prop)

-- the methods of a function that apply, but one; a number that no method has leaves them all
unfoldable pub applicable_but : Model → ℕ → List ℕ → ℕ → List ℕ
applicable_but M f args but = keep (λ m. not (eqb m but)) (applicable M f args)

-- the same, where there may be none to leave out
unfoldable pub applicable_without : Model → ℕ → List ℕ → Option ℕ → List ℕ
applicable_without M f args None = applicable M f args
applicable_without M f args (Some m) = applicable_but M f args m

-- m is another method than the one to leave out
abbrev pub other_than : Option ℕ → ℕ → Bool
other_than None m = true
other_than (Some n) m = not (eqb m n)
