-- `machine::run::run`: the start, and the paces from the frame that it leaves on top.
-- Assumes nothing.
use Rattle.std.proofs.Common.{◌∙◌, arith}
use Rattle.machine.proofs.Runs.{none_wait, opening_goes, opening_ended}
use Rattle.machine.proofs.run.run.Goals as goal

pub start-requires-clause-waiting : goal.start-requires-clause-waiting
start-requires-clause-waiting c = none_wait _ _ _ (omega arith) (omega arith)

pub returns-in-Ok : goal.returns-in-Ok
returns-in-Ok c =
    let said = c.run_from.ensures ∙ opening_goes _ c.args.f c.args.args.now c.args.count _ c.in-Ok.ensures.resumes in
    rw c.new-indexed.ensures at said

pub returns-in-Err : goal.returns-in-Err
returns-in-Err c =
    let said = opening_ended _ c.args.f c.args.args.now c.args.count _ c.in-Err.ensures.resumes in
    rw c.new-indexed.ensures at said
