-- `machine::call::call_found`: 12, or the frame of the method that was found.
-- Assumes nothing.
use Rattle.std.proofs.Common.{sym, ◌∙◌, arith}
use Rattle.layout.proofs.Opened.{counts_of, wellformed_of}
use Rattle.layout.proofs.Tuples.{of_arity}
use Rattle.machine.proofs.Sends.{arguments_few, enters_as, stops_declared, enters_found}
use Rattle.machine.proofs.Steps.{steps_as}
use Rattle.machine.proofs.call.call_found.Goals as goal

pub declared_hold-requires-clause-of_arity : goal.declared_hold-requires-clause-of_arity
declared_hold-requires-clause-of_arity c =
    let p = c.requires in
    of_arity c.args.prepared.now.bundle.opened p.arguments.arity p.m_lt_methods p.m_value

pub of-requires : goal.of-requires
of-requires c = arguments_few (wellformed_of c.args.prepared.now.bundle.opened) c.requires.arguments

pub returns-then-not-declared_hold : goal.returns-then-not-declared_hold
returns-then-not-declared_hold c =
    record { turned = stops_declared _ _ _ _ _ c.of.ensures (sym c.declared_hold.ensures ∙ c.if-not-declared_hold.true); holding = tt }

pub enter-requires-clause-args_len_bound : goal.enter-requires-clause-args_len_bound
enter-requires-clause-args_len_bound c = arguments_few (wellformed_of c.args.prepared.now.bundle.opened) c.requires.arguments

pub returns : goal.returns
returns c =
    let p = c.requires in
    let o = c.args.prepared.now.bundle.opened in
    steps_as (enters_as (wellformed_of o) _ c.enter.ensures p.waiting (omega (arith, counts_of o, p.m_lt_methods)) p.m_value p.arguments)
    (enters_found _ _ _ _ _ (sym c.declared_hold.ensures ∙ c.if-not-declared_hold.false))
