-- The empty type with class c's joined is class c's.
use mathlib.Core.List.{[]}
use Rattle.typing.proofs.Rows.{row_empty, row_joined}
use Rattle.typing.proofs.row.class_row.Goals as goal

pub returns : goal.returns
returns c = row_joined _ [] _ _ _ (row_empty _) c.join.ensures
