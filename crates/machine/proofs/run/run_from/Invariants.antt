-- `machine::run::run_from`: what is left of the run from here is what the whole run comes to.
-- Assumes nothing.
use Rattle.std.proofs.Common.{◌≡◌, ◌-◌}
use Rattle.layout.specs.Bundles.{model}
use Rattle.rules.specs.Machine.{progress, run_from}
use Rattle.machine.specs.Held.{resumed, Going}
use Rattle.machine.proofs.run.run_from.Given as goal

abbrev pub invariant-loop-steps : goal.invariant-loop-steps
invariant-loop-steps l =
    let M = model l.indexed.prepared.bundle in
    record {
      going : Going M l.frames.numbers l.frames.values l.k;
      rest : (run_from M (l.count - l.steps) (progress (resumed M l.frames.numbers l.frames.values l.k) l.steps)).outcome
          ≡ (run_from M l.count (progress (resumed M l.fn.frames.numbers l.fn.frames.values l.top) 0)).outcome;
    }
