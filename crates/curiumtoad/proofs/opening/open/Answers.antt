-- What the rules' opening answers.
use Rattle.std.proofs.lemmas.Result.{err_from_is_err_and}
use Rattle.rules.specs.Calls.{opening_call}
use Rattle.curiumtoad.proofs.opening.open.Goals as goal

pub returns-in_err-open-clause-result_value : goal.returns-in_err-open-clause-result_value
unfolding opening_call
returns-in_err-open-clause-result_value c =
    let p = err_from_is_err_and c.from_residual.result c.from_residual.ensures.1 in
    rw (p.1, p.2) c.in_err-open.ensures.opens.answer

pub returns-clause-result_value : goal.returns-clause-result_value
unfolding opening_call
returns-clause-result_value c = c.in_ok-open.ensures.opens.answer
