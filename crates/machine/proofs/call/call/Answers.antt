-- `machine::call::call`: 10 and 11 as lookup answers, or the method found is entered.
-- Assumes nothing.
use Rattle.std.proofs.Common.{sym, arith}
use Rattle.rules.proofs.Lookup.{lookup_leader}
use Rattle.layout.proofs.Opened.{counts_of, wellformed_of}
use Rattle.machine.proofs.Sends.{arguments_few, call_not_found, call_found}
use Rattle.machine.proofs.Steps.{steps_as}
use Rattle.machine.proofs.call.call.Goals as goal

pub of-requires : goal.of-requires
of-requires c = arguments_few (wellformed_of c.args.indexed.now.prepared.bundle.opened) c.requires.arguments

pub call_found-requires-clause-m_lt_methods : goal.call_found-requires-clause-m_lt_methods
call_found-requires-clause-m_lt_methods c =
    let h = (lookup_leader _ _ _ _ (sym c.in-Ok.ensures)).candidate in
    omega (arith, h.bound, counts_of c.args.indexed.now.prepared.bundle.opened)

pub call_found-requires-clause-m_value : goal.call_found-requires-clause-m_value
call_found-requires-clause-m_value c =
    (lookup_leader _ _ _ _ (sym c.in-Ok.ensures)).candidate.of_function

pub returns-in-Err : goal.returns-in-Err
returns-in-Err c =
    record { turned = call_not_found _ _ _ _ c.in-Err.failed c.of.ensures c.in-Err.ensures; holding = tt }

pub returns-in-Ok : goal.returns-in-Ok
returns-in-Ok c = steps_as c.call_found.ensures (call_found _ _ _ _ _ c.in-Ok.ensures)
