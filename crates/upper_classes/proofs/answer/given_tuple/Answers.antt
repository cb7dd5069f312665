-- A first tuple that finds none or two settles it.
-- Assumes nothing.
use mathlib.Core.Path.{sym, ap, ◌∙◌}
use Rattle.rules.specs.Rough.{is_failure}
use Rattle.tuple_search.proofs.Unfound.{is_failure_lem}
use Rattle.tuple_search.proofs.Narrowing.{below_arguments}
use Rattle.upper_classes.proofs.Answers.{fails_answer}
use Rattle.upper_classes.proofs.answer.given_tuple.Goals as goal

pub lookup-requires : goal.lookup-requires
lookup-requires c = rw c.new-indexed.ensures (below_arguments c.requires.arguments c.requires.below)

pub returns-in-Err : goal.returns-in-Err
returns-in-Err c =
    fails_answer _ _ _ _ c.requires.below (ap is_failure (sym (rw c.new-indexed.ensures at c.in-Err.ensures)) ∙ is_failure_lem c.in-Err.field-0)
