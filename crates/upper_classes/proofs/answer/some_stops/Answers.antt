-- The search stops exactly where the answer is no for some tuple.
-- Assumes nothing.
use mathlib.Core.Path.{◌∙◌}
use Rattle.upper_classes.proofs.Answers.{stops_any}
use Rattle.upper_classes.proofs.answer.some_stops.Goals as goal

pub returns : goal.returns
returns c = c.is_some.ensures ∙ stops_any _ _ _ c.first_stop.result c.first_stop.ensures
