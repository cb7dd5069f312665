-- `machine::step::new`: 15, or the class is put.
-- Assumes nothing.
use Rattle.std.proofs.Common.{sym, ◌∙◌}
use Rattle.layout.proofs.Opened.{wellformed_of}
use Rattle.machine.proofs.Passes.{new_stops, new_puts}
use Rattle.machine.proofs.Steps.{steps_as}
use Rattle.machine.proofs.step.new.Goals as goal

pub returns-then-not-is_concrete : goal.returns-then-not-is_concrete
returns-then-not-is_concrete c =
    let p = c.requires in
    let stops = new_stops _ (wellformed_of c.args.bundle.now.opened) _ _ _ p.going _ (sym c.is_concrete.ensures ∙ c.if-not-is_concrete.true) in
    record { turned = rw (c.method.ensures, c.next.ensures) (sym stops); holding = tt }

pub returns : goal.returns
returns c =
    let p = c.requires in
    steps_as c.put.ensures (sym (new_puts _ (wellformed_of c.args.bundle.now.opened) _ _ _ p.going _ (sym c.is_concrete.ensures ∙ c.if-not-is_concrete.false)))
