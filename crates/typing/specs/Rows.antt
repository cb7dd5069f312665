-- Static types as rows of bytes: byte b of a type's row is 1 when class b is in the type.
-- Assumes nothing.
use Rattle.std.specs.Prelude.{ℕ, ◌<◌, ◌≡◌, cond, List, [], ◌∷◌, map, length, get_or}
use Rattle.rules.specs.Model.{Model}
use Rattle.rules.specs.Subclass.{subclass}
use Rattle.rules.specs.Types.{Static, in_type}
use Rattle.rules.specs.Calls.{row_bytes}
use Rattle.rules.specs.Bits.{bit}

-- byte k of the row of a type
unfoldable pub type_byte : Model → Static → ℕ → ℕ
type_byte M t k = bit (in_type M t k)

-- the row is that of the type
pub record RowOf (M : Model) (t : Static) (row : List ℕ) : Type 0 where
  pub long : length row ≡ row_bytes
  pub byte : (k : ℕ) → k < row_bytes → get_or row k 0 ≡ type_byte M t k

-- what a byte for class k becomes when class c's type is joined
unfoldable pub joined : Model → ℕ → ℕ → ℕ → ℕ
joined M c k old = cond (subclass M c k) 1 old

-- class c's type is joined to that of a row
pub record Joined (M : Model) (c : ℕ) (old new : List ℕ) : Type 0 where
  pub long : length new ≡ length old
  pub byte : (k : ℕ) → k < row_bytes → get_or new k 0 ≡ joined M c k (get_or old k 0)

-- row i is that of the type at place i
pub record Rows (M : Model) (rows : List (List ℕ)) (types : List Static) : Type 0 where
  pub long : length rows ≡ length types
  pub holds : (i : ℕ) → i < length types → RowOf M (get_or types i []) (get_or rows i [])

-- the types of argument classes, each that of its class
unfoldable pub class_types : List ℕ → List Static
class_types args = map (λ c. c ∷ []) args
