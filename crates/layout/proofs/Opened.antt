-- What an opened bundle gives a reader: the rules hold, the model is well formed, and each record lies within the bundle.
-- Assumes nothing.
use Prim.Native.Nat.{ℕ}
use mathlib.Core.Path.{◌≡◌, refl, ap}
use mathlib.Core.Bool.{true}
use mathlib.Core.List.{List}
use Rattle.rules.specs.Layout.{Answer, gives, refuses, opening}
use Rattle.rules.specs.Model.{model_of, Wellformed}
use Rattle.rules.proofs.Opening.{Rules, opened_rules}
use Rattle.rules.proofs.Wellformed.{opened_wellformed}
use Rattle.layout.specs.Tables.{Tables, Placed}
use Rattle.layout.specs.Opened.{Opened, opened, is_given}
use Rattle.layout.specs.declared.bundle.Bundle.{Bundle}
use Rattle.layout.proofs.Within.{within}

-- what is given, where something is
given_counts : (a : Answer (List ℕ)) → is_given a ≡ true → (counts : List ℕ) × (a ≡ gives counts)
given_counts (gives counts) g = (counts, refl)
given_counts (refuses number values) g = absurd cc

pub counts_given : {b : List ℕ} {t : Bundle} → Opened b t → (counts : List ℕ) × (opening b ≡ gives counts)
counts_given {b} (opened g tables) = given_counts (opening b) g

-- an opening that gives counts, with the tables
pub opened_with : {b : List ℕ} {t : Bundle} (counts : List ℕ) → opening b ≡ gives counts → Tables b t → Opened b t
opened_with counts e tables = opened (ap is_given e) tables

pub rules_of : {b : List ℕ} {t : Bundle} → Opened b t → Rules b
rules_of {b} o = let given = counts_given o in opened_rules b given.0 given.1

pub tables_of : {b : List ℕ} {t : Bundle} → Opened b t → Tables b t
tables_of (opened g tables) = tables

pub wellformed_of : {b : List ℕ} {t : Bundle} → Opened b t → Wellformed (model_of b)
wellformed_of {b} o = let given = counts_given o in opened_wellformed b given.0 given.1

-- the tables count what the model has, so that a number below the one count is below the other
pub record Counts (b : List ℕ) (t : Bundle) : Type 0 where
  pub classes : t.classes ≡ (model_of b).classes
  pub functions : t.functions ≡ (model_of b).functions
  pub signatures : t.signatures ≡ (model_of b).signatures
  pub methods : t.methods ≡ (model_of b).methods

pub counts_of : {b : List ℕ} {t : Bundle} → Opened b t → Counts b t
unfolding model_of
counts_of o =
    let tables = tables_of o in
    record { classes = tables.classes; functions = tables.functions; signatures = tables.signatures; methods = tables.methods }

pub placed_of : {b : List ℕ} {t : Bundle} → Opened b t → Placed b t
placed_of {b} {t} o = let r = rules_of o in within b t (tables_of o) r.size r.chain r.limit
