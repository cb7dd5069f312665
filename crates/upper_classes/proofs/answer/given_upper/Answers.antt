-- Where a place has no class to write, the answer is 24, and else the one for the tuple written.
-- Assumes nothing.
use native.Mathlib.Omega.{arith}
use mathlib.Core.Path.{sym, ap, ◌∙◌}
use lib.Seq.{length-take-le}
use Rattle.rules.specs.Layout.{gives}
use Rattle.rules.proofs.Rough.{below_concrete}
use Rattle.subclasses.proofs.Asked.{arguments_places}
use Rattle.upper_classes.proofs.Answers.{upper_abstract, upper_answered}
use Rattle.upper_classes.proofs.answer.given_upper.Goals as goal

pub least_below-requires-clause-upper_len : goal.least_below-requires-clause-upper_len
least_below-requires-clause-upper_len c = arguments_places c.args.prepared.now.prepared.opened c.requires

pub slice_bounds-least-end : goal.slice_bounds-least-end
slice_bounds-least-end c = omega (arith, c.in-Some.ensures.0, arguments_places c.args.prepared.now.prepared.opened c.requires)

pub slice_bounds-given_tuple-end : goal.slice_bounds-given_tuple-end
slice_bounds-given_tuple-end c =
    sym (length-take-le _ _ (omega (arith, c.in-Some.ensures.0, arguments_places c.args.prepared.now.prepared.opened c.requires)))

pub returns-in-None : goal.returns-in-None
returns-in-None c = upper_abstract _ _ _ c.in-None.ensures

pub returns-in-Some : goal.returns-in-Some
returns-in-Some c = ap gives c.given_tuple.ensures ∙ upper_answered _ _ _ (below_concrete _ _ _ c.in-Some.ensures.1)
