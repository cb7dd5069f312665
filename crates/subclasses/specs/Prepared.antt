-- What a call has once it is prepared: the bundle has opened, and the scratch holds its subclass matrix.
-- Assumes nothing.
use Rattle.std.specs.Prelude.{ℕ, List}
use Rattle.rules.specs.Model.{model_of}
use denote.Struct.Props.{props}
use Rattle.layout.specs.Opened.{Opened, Opened-prop}
use Rattle.layout.specs.declared.bundle.Bundle.{Bundle}
use Rattle.subclasses.specs.Matrix.{Filled, Filled-prop}

pub record Prepared (b : List ℕ) (t : Bundle) (scratch : List ℕ) : Type 0 where
  pub opened : Opened b t
  pub filled : Filled (model_of b) scratch

-- there is one proof of it at most, so that a value can carry it
pub Prepared-prop : (b : List ℕ) (t : Bundle) (scratch : List ℕ) → IsProp (Prepared b t scratch)
Prepared-prop b t scratch = hlevel (props, Opened-prop, Filled-prop)
