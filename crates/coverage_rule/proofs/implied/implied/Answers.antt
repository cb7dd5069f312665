use Rattle.std.proofs.Common.{arith, sym, ◌∙◌}
use Rattle.rules.proofs.Lists.{any_from, any_none, below_upto, upto_below}
use Rattle.coverage_rule.specs.Implied.{implied}
use Rattle.coverage_rule.proofs.implied.implied.Goals as goal

pub returns-then-implies : goal.returns-then-implies
unfolding implied
returns-then-implies c = sym (any_from _ _ (below_upto _ c.loop-e.e (omega arith)) (sym c.implies.ensures ∙ c.if-implies.true))

pub returns : goal.returns
unfolding implied
returns c = sym (any_none _ _ (λ i m. c.loop-e.invariant i (omega (arith, upto_below _ m))))
