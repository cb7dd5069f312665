-- `machine::returning::return_values`: the frame above the next caller comes to what the frame on top at first did.
-- Assumes nothing.
use Rattle.std.proofs.Common.{◌≡◌}
use Rattle.layout.specs.Bundles.{model}
use Rattle.machine.specs.Held.{resumed, Held}
use Rattle.machine.proofs.returning.return_values.Given as goal

abbrev pub invariant-loop-caller : goal.invariant-loop-caller
invariant-loop-caller l =
    let M = model l.bundle in
    record {
      held : Held M l.frames.numbers l.frames.values l.caller;
      same : resumed M l.frames.numbers l.frames.values l.caller ≡ resumed M l.fn.frames.numbers l.fn.frames.values l.top;
    }
