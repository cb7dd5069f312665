-- `machine::run::pace`: the turn of the next instruction, and the ends of bodies after it.
-- Assumes nothing.
use Rattle.std.proofs.Common.{rules, ◌+◌, ◌∙◌}
use Rattle.rules.specs.Machine.{landed, counted}
use Rattle.machine.specs.Held.{resumed}
use Rattle.machine.proofs.Runs.{progress_after, pace_turn}
use Rattle.machine.proofs.run.pace.Goals as goal

pub returns-in-Ok : goal.returns-in-Ok
unfolding landed counted resumed
returns-in-Ok c =
    let after = progress_after _ _ _ (c.args.steps + 1) _ c.map_err.result _ c.return_values.ensures (search rules) in
    record {
      progressed = after.progressed ∙ pace_turn _ _ _ c.args.top c.requires.going c.args.steps _ c.in-Ok.ensures.turned;
      onward = after.onward;
    }

pub returns-in-Err : goal.returns-in-Err
unfolding landed counted
returns-in-Err c = record { progressed = pace_turn _ _ _ c.args.top c.requires.going c.args.steps _ c.in-Err.ensures.turned; onward = tt }
