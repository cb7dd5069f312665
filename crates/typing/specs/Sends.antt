-- Sends whose arguments' types stand in rows. No list of types is at hand in code, so each promise is for whatever types the rows hold.
-- Assumes nothing.
use Rattle.std.specs.Prelude.{ℕ, ◌≡◌, Bool, true, false, ◌&&◌, List, [], ◌∷◌, eqb, length, Option, Some, None}
use Rattle.rules.specs.Model.{Model}
use Rattle.rules.specs.Types.{Static, licenses, send_type}
use Rattle.typing.specs.Rows.{RowOf, Rows}

-- signature s is of function f and licenses a send with arguments of these types
unfoldable pub licenses_for : Model → ℕ → List Static → ℕ → Bool
licenses_for M f types s = eqb (M.sig_function s) f && licenses M types s

-- the type has a class: some signature licenses its send
unfoldable pub inhabited : Static → Bool
inhabited [] = false
inhabited (c ∷ cs) = true

-- r says whether signature s licenses a send of f
pub record Licensed (M : Model) (rows : List (List ℕ)) (f s : ℕ) (r : Bool) : Type 0 where
  pub answer : (types : List Static) → Rows M rows types → length types ≡ M.arity f → r ≡ licenses_for M f types s

-- the row of a type that has a class; none for the empty type
unfoldable pub Given : Model → Static → Option (List ℕ) → Type 0
Given M [] None = Unit {0}
Given M [] (Some row) = ⊥
Given M (c ∷ cs) None = ⊥
Given M (c ∷ cs) (Some row) = RowOf M (c ∷ cs) row

-- r is the row of a send of f, if any signature licenses it
pub record Sent (M : Model) (rows : List (List ℕ)) (f : ℕ) (r : Option (List ℕ)) : Type 0 where
  pub row : (types : List Static) → Rows M rows types → length types ≡ M.arity f → Given M (send_type M f types) r
