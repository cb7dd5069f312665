-- A send that breaks its rule is 18, and the others answer by their used places.
-- Assumes nothing.
use mathlib.Core.Path.{sym, ◌∙◌}
use Rattle.upper_classes.proofs.Answers.{rough_absent, rough_sent}
use Rattle.upper_classes.proofs.answer.rough_in.Goals as goal

pub returns-in-None : goal.returns-in-None
returns-in-None c = rough_absent _ _ _ (sym c.in-None.ensures.is_send_value)

pub returns-in-Some : goal.returns-in-Some
returns-in-Some c =
    let said = rw c.as_slice.ensures at c.given_upper.ensures in
    said ∙ rough_sent _ _ _ (sym c.in-Some.ensures.is_send_value) c.in-Some.ensures.passes
