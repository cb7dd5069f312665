-- The tables of what an opening answers.
-- Assumes nothing.
use Rattle.std.specs.Prelude.{Result, Ok, Err}
use Rattle.layout.specs.declared.bundle.Bundle.{Bundle}
use Rattle.layout.specs.declared.open.OpenBundle.{OpenBundle}

abbrev pub tables_of : {E : Type 0} → Result OpenBundle E → Result Bundle E
tables_of (Ok b) = Ok b.tables
tables_of (Err e) = Err e
