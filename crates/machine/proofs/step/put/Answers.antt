-- `machine::step::put`: the instruction is passed and the value put.
-- Assumes nothing.
use Rattle.std.proofs.Common.{arith}
use Rattle.layout.proofs.Opened.{counts_of, wellformed_of}
use Rattle.machine.proofs.Passes.{next_short, put_room, put_made}
use Rattle.machine.proofs.step.put.Goals as goal

pub pass-requires-clause-next_bound : goal.pass-requires-clause-next_bound
pass-requires-clause-next_bound c = next_short _ (wellformed_of c.args.bundle.now.opened) _ _ _ c.requires.going

pub push-requires-clause-height_bound : goal.push-requires-clause-height_bound
push-requires-clause-height_bound c = (put_room _ (wellformed_of c.args.bundle.now.opened) _ _ _ c.requires.going _ c.pass.ensures.numbers_after).height

pub push-requires-clause-v_bound : goal.push-requires-clause-v_bound
push-requires-clause-v_bound c =
    let w = wellformed_of c.args.bundle.now.opened in
    omega (arith, c.requires.v_lt_classes, counts_of c.args.bundle.now.opened, w.classes_limit)

pub returns : goal.returns
returns c =
    let o = c.args.bundle.now.opened in
    put_made _ (wellformed_of o) _ _ c.args.top c.requires.going c.args.v (omega (arith, c.requires.v_lt_classes, counts_of o)) _ _ _ _
    c.pass.ensures.numbers_after c.pass.ensures.values_after c.push.ensures.numbers_after c.push.ensures.values_after
