-- Ancestry (`specs/Subclass`) is reaching on the graph of a model's parents: as a relation, and as a test that takes as many steps as there are classes.
-- Assumes nothing.
use Prim.Native.Nat.{ℕ, zero, suc}
use mathlib.Core.Path.{◌≡◌, refl, ap}
use mathlib.Core.Bool.{Bool, ◌||◌}
use mathlib.Core.Logic.{◌↔◌}
use lib.Dec.{eqb}
use Rattle.rules.specs.Inheritance.{Reaches, itself as reached_itself, parent as reached_parent, reaches_within, reaches}
use Rattle.rules.specs.Model.{Model}
use Rattle.rules.specs.Subclass.{Under, itself, parent, subclass_within, subclass}
use Rattle.rules.proofs.Lists.{any_agree}

module _ (M : Model) where
  under_to_reaches : {a b : ℕ} → Under M a b → Reaches M.parents a b
  under_to_reaches itself = reached_itself
  under_to_reaches (parent m u) = reached_parent m (under_to_reaches u)

  reaches_to_under : {a b : ℕ} → Reaches M.parents a b → Under M a b
  reaches_to_under reached_itself = itself
  reaches_to_under (reached_parent m u) = parent m (reaches_to_under u)

  pub under_reaches : (a b : ℕ) → Under M a b ↔ Reaches M.parents a b
  under_reaches a b = (under_to_reaches, reaches_to_under)

  within_reaches_within : (steps a b : ℕ) → subclass_within M steps a b ≡ reaches_within M.parents steps a b
  unfolding subclass_within reaches_within
  within_reaches_within zero a b = refl
  within_reaches_within (suc steps) a b =
      ap (λ (t : Bool). eqb a b || t)
      (any_agree (λ p. subclass_within M steps p b) (λ p. reaches_within M.parents steps p b) (M.parents a) (λ p m. within_reaches_within steps p b))

  pub subclass_reaches : (a b : ℕ) → subclass M a b ≡ reaches M.parents M.classes a b
  unfolding subclass reaches
  subclass_reaches a b = within_reaches_within M.classes a b
