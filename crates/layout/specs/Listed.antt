-- A bundle whose classes keep their own rules, with parents in any order, and the tables of its directory: their lists of parents can be read, and may still have cycles.
-- A data type and no record: proofs pass it on whole.
-- Assumes nothing.
use Rattle.std.specs.Prelude.{ℕ, ◌<◌, ◌≡◌, true, List}
use mathlib.Core.Path.{ap, ◌∙◌}
use denote.Struct.Props.{props}
use Rattle.rules.specs.Layout.{class_count}
use Rattle.rules.specs.Cycles.{listed_rule}
use Rattle.layout.specs.Tables.{Placed}
use Rattle.layout.specs.declared.bundle.Bundle.{Bundle}

pub data Listed (b : List ℕ) (t : Bundle) : Type 0 where
  listed : Placed b t → ((c : ℕ) → c < class_count b → listed_rule b c ≡ true) → Listed b t

-- there is one proof of it at most, so that a value can carry it
pub Listed-prop : (b : List ℕ) (t : Bundle) → IsProp (Listed b t)
Listed-prop b t (listed p x) (listed q y) =
    let placed : IsProp (Placed b t) = hlevel props in
    let rules : IsProp ((c : ℕ) → c < class_count b → listed_rule b c ≡ true) = hlevel props in
    ap (λ e. listed e x) (placed p q) ∙ ap (listed q) (rules x y)
