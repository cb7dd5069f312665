-- `curiumtoad::checked_run::checked_run`: both answers over the opened bundle, or both refused; and they judge alike.
-- Assumes nothing.
use mathlib.Core.Path.{◌∙◌}
use Rattle.std.proofs.Common.{Err}
use Rattle.rules.specs.Calls.{check_call, run_call}
use Rattle.preparation.proofs.Called.{refused_early, ready}
use Rattle.curiumtoad.proofs.Judging.{judged_alike}
use Rattle.curiumtoad.proofs.checked_run.checked_run.Goals as goal

pub returns-in-Ok : goal.returns-in-Ok
unfolding check_call run_call
returns-in-Ok c =
    let h = c.in-Ok.ensures.begins in
    let checked = ready h _ c.check_in.ensures in
    let ran = ready h _ c.run_in.ensures in
    record {
      verdict_value = checked.0;
      outcome_value = ran.0;
      judged_alike = judged_alike _ _ _ _ _ c.check_in.result c.run_in.result checked.0 ran.0;
      scratch_after = checked.1;
    }

pub returns-in-Err : goal.returns-in-Err
unfolding check_call run_call
returns-in-Err c =
    let h = c.in-Err.ensures.begins in
    let checked = c.early.ensures ∙ (refused_early h _).0 in
    let ran = refused_early h _ in
    record {
      verdict_value = checked;
      outcome_value = ran.0;
      judged_alike = judged_alike _ _ _ _ _ (Err c.early.result) (Err c.in-Err.refusal) checked ran.0;
      scratch_after = ran.1;
    }
