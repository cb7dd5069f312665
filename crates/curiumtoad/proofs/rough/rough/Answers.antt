-- `curiumtoad::rough::rough`: refused before its own rules, or the answer over the opened bundle.
-- Assumes nothing.
use Rattle.std.proofs.lemmas.Result.{err_from_is_err_and}
use Rattle.rules.specs.Rough.{rough_call}
use Rattle.preparation.proofs.Called.{refused_early, ready}
use Rattle.curiumtoad.proofs.rough.rough.Goals as goal

pub returns-in_err-bundle : goal.returns-in_err-bundle
unfolding rough_call
returns-in_err-bundle c =
    let p = err_from_is_err_and c.from_residual.result c.from_residual.ensures.1 in
    let r = refused_early c.in_err-bundle.ensures.begins _ in
    rw (p.1, p.2) (record { result_value = r.0; scratch_after = r.1 })

pub returns : goal.returns
unfolding rough_call
returns c = let r = ready c.in_ok-bundle.ensures.begins _ c.rough_in.ensures in record { result_value = r.0; scratch_after = r.1 }
