-- A list that is in its place lies within the section of parents.
use Rattle.std.proofs.Common.{arith, sym, ◌∙◌}
use Rattle.rules.proofs.Decides.{passed}
use Rattle.rules.proofs.Places.{sequence_fits}
use Rattle.record_rules.proofs.class.class_breaks.Goals as goal
use Rattle.record_rules.proofs.class.class_breaks.Goals.{then-filler-ne0, else-filler-ne0}

pub parents_break-requires : goal.parents_break-requires
parents_break-requires c =
    elim c.if-filler-ne0.branch [
      | then-filler-ne0 w ↦ cc
      | else-filler-ne0 w ↦ omega (arith, sequence_fits _ _ _ _ _ _ (passed w.misplaced.ensures (sym w.value-is ∙ c.if-misplaced.false)))
    ]
