-- The rows hold the types of the classes before this one.
use Rattle.std.proofs.Common.{take}
use Rattle.layout.specs.Bundles.{model}
use Rattle.typing.specs.Rows.{Rows, class_types}
use Rattle.typing.proofs.row.class_rows.Given as goal

abbrev pub invariant-loop-class : goal.invariant-loop-class
invariant-loop-class l = Rows (model l.prepared.bundle) l.rows.items (class_types (take l.class-index l.args))
