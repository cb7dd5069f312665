-- The body lies within the bundle and is a whole number of instructions.
use Rattle.std.proofs.Common.{arith}
use Rattle.rules.specs.Layout.{code_rule, code_of}
use Rattle.record_rules.proofs.Parts.{method_function, body_fits, body_even}
use Rattle.record_rules.proofs.code.code_breaks.Goals as goal

pub arity-n-requires : goal.arity-n-requires
arity-n-requires c = omega (arith, method_function _ _ c.requires.m_value)

pub pairs_break-requires-clause-count_in_bounds : goal.pairs_break-requires-clause-count_in_bounds
pairs_break-requires-clause-count_in_bounds c = omega (arith, body_fits _ _ c.requires.m_value)

pub returns : goal.returns
unfolding code_rule code_of
returns c = cc (body_even _ _ c.requires.m_value)
