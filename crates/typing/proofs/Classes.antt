-- The types of argument classes, one class after the other.
-- Assumes nothing.
use Prim.Native.Nat.{ℕ, ◌+◌, ◌≤◌, ◌<◌}
use native.Mathlib.Numerals.{add-one}
use mathlib.Core.Path.{◌≡◌, ◌∙◌}
use mathlib.Core.List.{List, [], ◌∷◌, ◌++◌}
use lib.ListN.{length, get_or, take, length-map}
use lib.Seq.{length-take-le, take-suc}
use Rattle.rules.specs.Model.{Model}
use Rattle.rules.proofs.Overwrite.{map_snoc}
use Rattle.std.specs.Prelude.{Option}
use Rattle.rules.specs.Types.{send_type}
use Rattle.typing.specs.Rows.{RowOf, Rows, class_types}
use Rattle.typing.specs.Sends.{Given, Sent}
use Rattle.typing.proofs.Rows.{rows_none, rows_push}

pub class_types_length : (args : List ℕ) → length (class_types args) ≡ length args
unfolding class_types
class_types_length args = length-map args (λ c. c ∷ [])

class_types_more : (i : ℕ) (args : List ℕ) → i < length args
    → class_types (take (i + 1) args) ≡ class_types (take i args) ++ ((get_or args i 0 ∷ []) ∷ [])
unfolding class_types
class_types_more i args h = rw (add-one i, take-suc args i 0 h) (map_snoc (λ c. c ∷ []) (take i args) (get_or args i 0))

module _ (M : Model) (args : List ℕ) where
  pub class_rows_none : Rows M [] (class_types (take 0 args))
  unfolding class_types
  class_rows_none = rows_none M

  pub class_rows_more : (rows : List (List ℕ)) (i c : ℕ) (row : List ℕ) → i < length args → c ≡ get_or args i 0 → RowOf M (c ∷ []) row
      → Rows M rows (class_types (take i args)) → Rows M (rows ++ (row ∷ [])) (class_types (take (i + 1) args))
  class_rows_more rows i c row h e o r =
      rw (class_types_more i args h) (rows_push M rows (class_types (take i args)) (get_or args i 0 ∷ []) row r (rw e at o))

  -- as many rows as classes before
  pub class_rows_before : (rows : List (List ℕ)) (i : ℕ) → i ≤ length args → Rows M rows (class_types (take i args)) → length rows ≡ i
  class_rows_before rows i h r = r.long ∙ class_types_length (take i args) ∙ length-take-le i args h

-- as many rows as classes
pub class_rows_length : (M : Model) (args : List ℕ) (rows : List (List ℕ)) → Rows M rows (class_types args) → length rows ≡ length args
class_rows_length M args rows r = r.long ∙ class_types_length args

-- what the row of a send with these classes as arguments is
pub given_classes : (M : Model) (f : ℕ) (args : List ℕ) (rows part : List (List ℕ)) (r : Option (List ℕ)) → Rows M rows (class_types args) → part ≡ rows
    → length args ≡ M.arity f → Sent M part f r → Given M (send_type M f (class_types args)) r
given_classes M f args rows part r held e n sent = sent.row (class_types args) (rw e held) (class_types_length args ∙ n)
