-- A case for each question.
-- Assumes nothing.
use native.Mathlib.Omega.{arith}
use mathlib.Core.Path.{sym, ap, subst, ◌∙◌}
use mathlib.Core.Bool.{not}
use Rattle.rules.specs.Coverage.{failing}
use Rattle.rules.specs.Rough.{is_method, is_failure}
use Rattle.layout.specs.Bundles.{model}
use Rattle.layout.proofs.Opened.{counts_of}
use Rattle.coverage_rule.proofs.Judging.{failing_error}
use Rattle.tuple_search.specs.Questions.{About, stops_at}
use Rattle.tuple_search.proofs.Unfound.{err_failure, is_no_method}
use Rattle.tuple_search.proofs.question.Question.stops_at.Goals as goal

pub judge_found-requires-clause-s_lt_signatures : goal.judge_found-requires-clause-s_lt_signatures
judge_found-requires-clause-s_lt_signatures c =
    let counts = counts_of c.args.prepared.now.prepared.opened in
    omega (arith, subst (About (model c.args.prepared.now.bundle)) c.in-Rule.is c.requires.about)

pub returns-in-Rule : goal.returns-in-Rule
unfolding stops_at
returns-in-Rule c = rw c.in-Rule.is (c.is_err.ensures.value ∙ failing_error c.judge_found.result ∙ ap failing c.judge_found.ensures)

pub returns-in-Finds : goal.returns-in-Finds
unfolding stops_at
returns-in-Finds c =
    let e = c.in-Finds.is in
    rw e (c.is_err-in-Finds.ensures.value ∙ err_failure c.args.found ∙ ap is_failure (rw e at c.requires.found_value))

pub returns-in-Ok : goal.returns-in-Ok
unfolding stops_at is_method
returns-in-Ok c =
    let e = c.in-FindsOnly.is in
    rw e (ap (λ r. not (is_method c.in-FindsOnly.m r)) (rw (e, c.in-Ok.is) at c.requires.found_value))

pub returns-in-Err : goal.returns-in-Err
unfolding stops_at
returns-in-Err c =
    let e = c.in-FindsOnly.is in
    let unfound = ap (is_method c.in-FindsOnly.m) (rw (e, c.in-Err.is) at c.requires.found_value) in
    rw e (ap not (sym (is_no_method c.in-FindsOnly.m c.in-Err.field-0) ∙ unfound))
