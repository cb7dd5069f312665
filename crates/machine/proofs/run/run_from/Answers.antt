-- `machine::run::run_from`: a pace that ends the run, one that makes a step, and no steps left.
-- Assumes nothing.
use Rattle.std.proofs.Common.{◌≡◌, sym, ◌∙◌, arith}
use Rattle.machine.proofs.Runs.{run_spent, run_paced, run_ended}
use Rattle.machine.proofs.run.run_from.Goals as goal

pub returns-in-Err : goal.returns-in-Err
returns-in-Err c =
    let l = c.loop-steps in
    sym (run_ended _ _ _ l.k l.invariant.going l.steps c.args.count (omega arith) _ _ c.in-Err.ensures.progressed) ∙ l.invariant.rest

pub loop-steps-preserved : goal.loop-steps-preserved
loop-steps-preserved c =
    let l = c.loop-steps in
    record {
      going = c.in-Ok.ensures.onward;
      rest = sym (run_paced _ _ _ l.k l.invariant.going l.steps c.args.count (omega arith) _ c.in-Ok.ensures.progressed) ∙ l.invariant.rest;
    }

pub returns : goal.returns
returns c =
    let l = c.loop-steps in
    let e : l.steps ≡ c.args.count = omega arith in
    let spent = sym (run_spent _ _ _ l.k l.invariant.going l.steps c.args.count e) ∙ l.invariant.rest in
    rw e at spent
