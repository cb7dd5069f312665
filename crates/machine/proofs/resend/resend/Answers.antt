-- `machine::resend::resend`: 25 or 26 as the search for the target answers, or the resend to it.
-- Assumes nothing.
use Rattle.std.proofs.Common.{◌≡◌, sym, ap, ◌∙◌, arith}
use Rattle.layout.specs.Bundles.{model}
use Rattle.rules.specs.Lookup.{found}
use Rattle.rules.specs.Resend.{resend_target}
use Rattle.rules.proofs.Resend.{found_target}
use Rattle.layout.proofs.Opened.{counts_of, wellformed_of}
use Rattle.frames.specs.Arrays.{method_at}
use Rattle.machine.proofs.Stores.{numbers_of}
use Rattle.machine.proofs.Passes.{held_of, resend_stops, resend_goes}
use Rattle.machine.proofs.Steps.{steps_as}
use Rattle.machine.proofs.resend.resend.Goals as goal
use Rattle.machine.proofs.resend.resend.Goals.{In-Ok}

-- the target is that of the frame's method
is_target : (c : In-Ok)
    → let a = c.args in found c.in-Ok.target ≡ resend_target (model a.indexed.now.prepared.bundle) (method_at a.frames.now.numbers a.top)
is_target c = c.in-Ok.ensures ∙ ap (resend_target (model c.args.indexed.now.prepared.bundle)) c.method-m.ensures

pub resend_target-requires : goal.resend_target-requires
resend_target-requires c =
    let p = c.requires in
    omega (arith, c.method-m.ensures, (numbers_of (held_of p.going)).method_present, counts_of c.args.indexed.now.prepared.bundle.opened)

pub resend_to-requires-clause-target_lt_methods : goal.resend_to-requires-clause-target_lt_methods
resend_to-requires-clause-target_lt_methods c =
    let t = (found_target _ _ _ (sym (is_target (goal.at.resend_to-requires-clause-target_lt_methods c).In-Ok))).chosen in
    omega (arith, t.bound, counts_of c.args.indexed.now.prepared.bundle.opened)

pub resend_to-requires-clause-target_value : goal.resend_to-requires-clause-target_value
resend_to-requires-clause-target_value c =
    (found_target _ _ _ (sym (is_target (goal.at.resend_to-requires-clause-target_value c).In-Ok))).chosen.of_function

pub returns-in-Err : goal.returns-in-Err
returns-in-Err c =
    let p = c.requires in
    let M = model c.args.indexed.now.prepared.bundle in
    let method = c.method-m.ensures in
    let e = c.in-Err.ensures ∙ ap (resend_target M) method in
    let stops = resend_stops _ (wellformed_of c.args.indexed.now.prepared.bundle.opened) _ _ _ p.going c.in-Err.failed e in
    record { turned = rw (c.resend_number.ensures, method, c.next.ensures) (sym stops); holding = tt }

pub returns-in-Ok : goal.returns-in-Ok
returns-in-Ok c =
    let p = c.requires in
    steps_as c.resend_to.ensures (resend_goes _ (wellformed_of c.args.indexed.now.prepared.bundle.opened) _ _ _ p.going _ (is_target (goal.at.returns-in-Ok c).In-Ok))
