-- No tuple finds another method than m; some tuple finds none or two; or neither.
-- Assumes nothing.
use mathlib.Core.Path.{sym, ◌∙◌}
use Rattle.method_sets.proofs.Rows.{tabled_none}
use Rattle.upper_classes.proofs.Answers.{one_answer, some_fails_answer, several_answer}
use Rattle.upper_classes.proofs.answer.given_method.Goals as goal

pub fill-requires-clause-zeros : goal.fill-requires-clause-zeros
fill-requires-clause-zeros c = tabled_none _ _ _

pub returns-then-not-some_stops : goal.returns-then-not-some_stops
returns-then-not-some_stops c = one_answer _ _ _ _ c.requires.some_finds (sym c.some_stops.ensures ∙ c.if-not-some_stops.true)

pub returns-then-some_stops : goal.returns-then-some_stops
returns-then-some_stops c = some_fails_answer _ _ _ (sym c.some_stops-2.ensures ∙ c.if-some_stops.true)

pub returns-else-some_stops : goal.returns-else-some_stops
returns-else-some_stops c =
    several_answer _ _ _ _ c.requires.some_finds (sym c.some_stops.ensures ∙ c.if-not-some_stops.false) (sym c.some_stops-2.ensures ∙ c.if-some_stops.false)
