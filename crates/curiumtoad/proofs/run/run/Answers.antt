-- `curiumtoad::run::run`: refused before its own rules, or the answer over the opened bundle.
-- Assumes nothing.
use Rattle.std.proofs.lemmas.Result.{err_from_is_err_and}
use Rattle.rules.specs.Calls.{run_call}
use Rattle.preparation.proofs.Called.{refused_early, ready}
use Rattle.curiumtoad.proofs.run.run.Goals as goal

pub returns-in_err-bundle : goal.returns-in_err-bundle
unfolding run_call
returns-in_err-bundle c =
    let p = err_from_is_err_and c.from_residual.result c.from_residual.ensures.1 in
    let r = refused_early c.in_err-bundle.ensures.begins _ in
    rw (p.1, p.2) (record { result_value = r.0; scratch_after = r.1 })

pub returns : goal.returns
unfolding run_call
returns c = let r = ready c.in_ok-bundle.ensures.begins _ c.run_in.ensures in record { result_value = r.0; scratch_after = r.1 }
