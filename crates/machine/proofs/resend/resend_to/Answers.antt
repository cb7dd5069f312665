-- `machine::resend::resend_to`: 27, or the frame of the target above the one that waits.
-- Assumes nothing.
use Rattle.std.proofs.Common.{◌≡◌, take, sym, ap, ◌∙◌, arith}
use Rattle.layout.specs.Bundles.{model}
use Rattle.rules.specs.Coverage.{declared_hold}
use Rattle.layout.proofs.Opened.{counts_of, wellformed_of}
use Rattle.layout.proofs.Tuples.{of_arity}
use Rattle.subclasses.specs.Places.{Arguments}
use Rattle.frames.specs.Arrays.{method_at}
use Rattle.machine.specs.Held.{frame_of}
use Rattle.machine.proofs.Passes.{next_short, handed_on, resend_enters, narrow_stops}
use Rattle.machine.proofs.Sends.{enters_as}
use Rattle.machine.proofs.Steps.{steps_as}
use Rattle.machine.proofs.resend.resend_to.Goals as goal
use Rattle.machine.proofs.resend.resend_to.Goals.{After-arguments-args, After-declared_hold}

-- the tuple read is the frame's arguments, and they are those of a send of its function
own : (c : After-arguments-args)
    → let a = c.args in
    let M = model a.prepared.now.bundle in
    let args = (frame_of M a.frames.now.numbers a.frames.now.values a.top).args in
    (take c.arity-n.result c.arguments-args.result ≡ args) × Arguments M (M.function (method_at a.frames.now.numbers a.top)) args
own c =
    let p = c.requires in
    let M = model c.args.prepared.now.bundle in
    let same = c.arity-n.ensures.0 ∙ ap M.arity (c.function.ensures.0 ∙ p.target_value) in
    handed_on M (wellformed_of c.args.prepared.now.bundle.opened) _ _ _ p.going _ same _ c.arguments-args.ensures

pub declared_hold-requires-clause-of_arity : goal.declared_hold-requires-clause-of_arity
declared_hold-requires-clause-of_arity c =
    let p = c.requires in
    let (read, args) = own (goal.at.declared_hold-requires-clause-of_arity c).After-arguments-args in
    rw read (of_arity c.args.prepared.now.bundle.opened args.arity p.target_lt_methods p.target_value)

pub declared_hold-requires-clause-args_present : goal.declared_hold-requires-clause-args_present
declared_hold-requires-clause-args_present c =
    let (read, args) = own (goal.at.declared_hold-requires-clause-args_present c).After-arguments-args in
    rw read args.classes

-- whether the target's declared classes hold them
holding : (c : After-declared_hold)
    → let a = c.args in
    let M = model a.prepared.now.bundle in
    c.declared_hold.result ≡ declared_hold M a.target (frame_of M a.frames.now.numbers a.frames.now.values a.top).args
holding c = rw (own (goal.at.After-declared_hold c).After-arguments-args).0 at c.declared_hold.ensures

pub returns-then-not-declared_hold : goal.returns-then-not-declared_hold
returns-then-not-declared_hold c =
    let p = c.requires in
    let e = sym (holding (goal.at.returns-then-not-declared_hold c).After-declared_hold) ∙ c.if-not-declared_hold.true in
    record { turned = rw (c.method.ensures, c.next.ensures) (sym (narrow_stops _ (wellformed_of c.args.prepared.now.bundle.opened) _ _ _ p.going _ e)); holding = tt }

pub pass-requires-clause-next_bound : goal.pass-requires-clause-next_bound
pass-requires-clause-next_bound c = next_short _ (wellformed_of c.args.prepared.now.bundle.opened) _ _ _ c.requires.going

pub returns : goal.returns
returns c =
    let p = c.requires in
    let o = c.args.prepared.now.bundle.opened in
    let (read, args) = own (goal.at.returns c).After-arguments-args in
    let e = sym (holding (goal.at.returns c).After-declared_hold) ∙ c.if-not-declared_hold.false in
    let (waits, same) = resend_enters _ (wellformed_of o) _ _ _ p.going _ e _ _ c.pass.ensures.numbers_after c.pass.ensures.values_after in
    steps_as (enters_as (wellformed_of o) _ (rw read at c.enter.ensures) waits (omega (arith, counts_of o, p.target_lt_methods)) p.target_value args) same
