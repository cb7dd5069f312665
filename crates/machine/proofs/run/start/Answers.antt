-- `machine::run::start`: what the opening send comes to, and the ends of bodies after it.
-- Assumes nothing.
use Rattle.std.proofs.lemmas.Result.{err_from_is_err_and}
use Rattle.rules.specs.Machine.{landed}
use Rattle.machine.specs.Held.{resumed}
use Rattle.machine.proofs.Runs.{resumes_as, start_turn}
use Rattle.machine.proofs.run.start.Goals as goal

pub returns-in_err-top : goal.returns-in_err-top
unfolding landed
returns-in_err-top c =
    let a = c.args in
    let p = err_from_is_err_and c.from_residual.result c.from_residual.ensures.1 in
    rw (p.1, p.2) (record { resumes = start_turn _ a.f a.args.now a.frames.now.numbers a.frames.now.values _ c.in_err-top.ensures.turned; onward = tt })

pub returns : goal.returns
unfolding landed resumed
returns c =
    let a = c.args in
    resumes_as c.return_values.ensures (start_turn _ a.f a.args.now a.frames.now.numbers a.frames.now.values _ c.in_ok-top.ensures.turned)
