-- `curiumtoad::check::check`: refused before its own rules, or the answer over the opened bundle.
-- Assumes nothing.
use mathlib.Core.Path.{◌∙◌}
use Rattle.rules.specs.Calls.{check_call}
use Rattle.preparation.proofs.Called.{refused_early, ready}
use Rattle.curiumtoad.proofs.check.check.Goals as goal

pub returns-in-Ok-clause-result_value : goal.returns-in-Ok-clause-result_value
unfolding check_call
returns-in-Ok-clause-result_value c = (ready c.in-Ok.ensures.begins _ c.check_in.ensures).0

pub returns-in-Err-clause-result_value : goal.returns-in-Err-clause-result_value
unfolding check_call
returns-in-Err-clause-result_value c = c.early.ensures ∙ (refused_early c.in-Err.ensures.begins _).0
