-- The part is as long as there are places.
-- Assumes nothing.
use Rattle.rules.specs.Layout.{places, specialiser_tuple_of}
use Rattle.rules.proofs.Places.{part_length}
use Rattle.twin_rule.proofs.twin.specialisers.Goals as goal

pub returns : goal.returns
unfolding specialiser_tuple_of
returns c = (cc, rw c.part.ensures.result_value (part_length _ _ places c.specialiser_tuple_at.ensures.1))
