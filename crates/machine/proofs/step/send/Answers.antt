-- `machine::step::send`: 14, or the call of its arguments above the frame that waits.
-- Assumes nothing.
use Rattle.std.proofs.Common.{◌≡◌, ◌+◌, ◌-◌, take, sym, ◌∙◌, arith}
use Rattle.layout.specs.Bundles.{model}
use Rattle.rules.specs.Model.{send}
use Rattle.rules.specs.Machine.{call}
use Rattle.layout.proofs.Opened.{counts_of, wellformed_of}
use Rattle.subclasses.specs.Places.{Arguments}
use Rattle.frames.specs.Arrays.{height_at}
use Rattle.machine.specs.Held.{callers_of, turn_at, Waiting}
use Rattle.machine.proofs.Stores.{numbers_of}
use Rattle.machine.proofs.Passes.{held_of, lowered_next, send_called, send_stops}
use Rattle.machine.proofs.Steps.{steps_as}
use Rattle.machine.proofs.step.send.Goals as goal
use Rattle.machine.proofs.step.send.Goals.{After-pass}

pub returns-then-height-n : goal.returns-then-height-n
returns-then-height-n c =
    let p = c.requires in
    let stops = send_stops _ (wellformed_of c.args.indexed.now.prepared.bundle.opened) _ _ _ p.going c.args.f
    (omega (arith, c.height.ensures, c.arity-n.ensures.0, c.if-height-n.true)) in
    record { turned = rw (c.method.ensures, c.next.ensures) (sym stops); holding = tt }

pub pop-args-requires-clause-height_bound : goal.pop-args-requires-clause-height_bound
pop-args-requires-clause-height_bound c = let n = numbers_of (held_of c.requires.going) in omega (arith, n.short, n.room)

pub pass-requires-clause-next_bound : goal.pass-requires-clause-next_bound
pass-requires-clause-next_bound c =
    let p = c.requires in
    (lowered_next _ (wellformed_of c.args.indexed.now.prepared.bundle.opened) _ _ _ p.going _ _ c.pop-args.ensures.numbers_after).1

-- the frame that waits, and the arguments that it sends
sent : (c : After-pass)
    → let f = c.args.f in
    let k = c.args.top in
    let now = c.args.frames.now in
    let after = c.pass.new.self in
    let M = model c.args.indexed.now.prepared.bundle in
    let args = take c.arity-n.result c.pop-args.result in
    Arguments M f args
    × Waiting M after.numbers after.values (k + 1)
    × (call M f args (callers_of M after.numbers after.values (k + 1)) ≡ turn_at M now.numbers now.values k (send f))
sent c =
    let a = c.args in
    let p = c.requires in
    let o = c.args.indexed.now.prepared.bundle.opened in
    let n = c.arity-n in
    let pop = c.pop-args.ensures in
    let pass = c.pass.ensures in
    send_called _ (wellformed_of o) a.frames.now.numbers _ a.top p.going a.f n.result (height_at a.frames.now.numbers a.top - n.result)
    (omega (arith, c.height.ensures, c.if-height-n.false)) (sym n.ensures.0) n.ensures.1 (omega (arith, counts_of o, p.f_lt_functions)) _ _ _ _
    pop.numbers_after pass.numbers_after (pass.values_after ∙ pop.values_after) pop.value

pub call-requires-clause-arguments : goal.call-requires-clause-arguments
call-requires-clause-arguments c = (sent (goal.at.call-requires-clause-arguments c).After-pass).0

pub call-requires-clause-waiting : goal.call-requires-clause-waiting
call-requires-clause-waiting c = (sent (goal.at.call-requires-clause-waiting c).After-pass).1

pub returns : goal.returns
returns c = steps_as c.call.ensures (sent (goal.at.returns c).After-pass).2
