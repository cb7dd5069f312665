-- A bundle that opens, with the tables of its directory. A data type and no record: proofs pass it on whole.
-- Assumes nothing.
use Rattle.std.specs.Prelude.{ℕ, ◌≡◌, Bool, true, false, List}
use mathlib.Core.Path.{ap, ◌∙◌}
use denote.Struct.Props.{props}
use Rattle.rules.specs.Layout.{Answer, gives, refuses, opening}
use Rattle.layout.specs.Tables.{Tables}
use Rattle.layout.specs.declared.bundle.Bundle.{Bundle}

-- whether something is given
abbrev pub is_given : {A : Type 0} → Answer A → Bool
is_given (gives x) = true
is_given (refuses number values) = false

pub data Opened (b : List ℕ) (t : Bundle) : Type 0 where
  opened : is_given (opening b) ≡ true → Tables b t → Opened b t

-- there is one proof of it at most, so that a value can carry it
pub Opened-prop : (b : List ℕ) (t : Bundle) → IsProp (Opened b t)
Opened-prop b t (opened p x) (opened q y) =
    let given : IsProp (is_given (opening b) ≡ true) = hlevel props in
    let tables : IsProp (Tables b t) = hlevel props in
    ap (λ e. opened e x) (given p q) ∙ ap (opened q) (tables x y)
