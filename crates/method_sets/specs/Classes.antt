-- Which class of a method at a place is meant.
-- Assumes nothing.
use Rattle.std.specs.Prelude.{Bool, true, false}
use Rattle.method_sets.specs.declared.table.MethodClass.{MethodClass}
use Rattle.method_sets.specs.declared.table.MethodClass.TheVariants.{Specialiser, Declared}

-- whether it is the declared class, and not the specialiser
abbrev pub is_declared : MethodClass → Bool
is_declared Specialiser = false
is_declared Declared = true
