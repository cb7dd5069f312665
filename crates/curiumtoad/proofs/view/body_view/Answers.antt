-- A refusal is the call's, and the part is the method's code, at its place.
use borrow.Author.Rules.{rules}
use mathlib.Core.Path.{sym, ap, ◌∙◌}
use Rattle.std.proofs.lemmas.Result.{err_from_is_err_and}
use Rattle.rules.specs.Layout.{gives}
use Rattle.rules.specs.Calls.{start_on, body_view_start}
use Rattle.curiumtoad.proofs.Viewed.{view_refused, view_absent, view_given}
use Rattle.curiumtoad.proofs.view.body_view.Goals as goal

pub returns-in_err-bundle : goal.returns-in_err-bundle
returns-in_err-bundle c =
    let p = err_from_is_err_and c.from_residual.result c.from_residual.ensures.1 in
    rw (p.1, p.2) (record { result_value = sym (view_refused c.args.bundle.now c.args.method _ c.in_err-bundle.ensures.opens); place = tt })

pub returns-then-bundle-method-clause-result_value : goal.returns-then-bundle-method-clause-result_value
returns-then-bundle-method-clause-result_value c = sym (view_absent c.args.bundle.now c.args.method c.in_ok-bundle.ensures.opens (search rules))

pub returns-clause-result_value : goal.returns-clause-result_value
returns-clause-result_value c =
    let same = c.in_ok-bundle.ensures.same_bytes in
    ap gives (rw same at c.code_of.ensures.result_value) ∙ sym (view_given c.args.bundle.now c.args.method c.in_ok-bundle.ensures.opens (search rules))

pub returns-clause-place : goal.returns-clause-place
unfolding body_view_start start_on
returns-clause-place c =
    let same = c.in_ok-bundle.ensures.same_bytes in
    rw (view_given c.args.bundle.now c.args.method c.in_ok-bundle.ensures.opens (search rules)) (rw same at c.code_of.ensures.ref_ptr_value)
