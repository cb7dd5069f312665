-- `method_sets::table::MethodClass::of` meets its contract: each arm reads one of a method's two classes at a place.
-- Assumes nothing.
use Rattle.method_sets.specs.Sets.{class_of}
use Rattle.method_sets.proofs.table.MethodClass.of.Goals as goal

pub returns-in-Specialiser : goal.returns-in-Specialiser
unfolding class_of
returns-in-Specialiser c = rw c.in-Specialiser.is c.specialiser.ensures

pub returns-in-Declared : goal.returns-in-Declared
unfolding class_of
returns-in-Declared c = rw c.in-Declared.is c.declared.ensures
