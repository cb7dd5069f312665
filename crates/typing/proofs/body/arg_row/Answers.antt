-- The specialiser's type with the declared class's joined.
use mathlib.Core.List.{[], ◌∷◌}
use Rattle.rules.specs.Types.{arg_type}
use Rattle.typing.proofs.Rows.{row_joined}
use Rattle.typing.proofs.body.arg_row.Goals as goal

pub returns : goal.returns
unfolding arg_type
returns c =
    rw (← c.specialiser.ensures.0, ← c.declared.ensures.0)
    (row_joined _ (c.specialiser.result ∷ []) _ _ _ c.class_row-row.ensures c.join.ensures)
