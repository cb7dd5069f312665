-- The rule of the send, the verdict, the cover, and then the run.
use native.Mathlib.Omega.{arith}
use mathlib.Core.Path.{◌≡◌, sym, ap, ◌∙◌}
use Rattle.std.proofs.lemmas.Result.{err_from_is_err_and}
use Rattle.rules.specs.Layout.{gives}
use Rattle.rules.specs.Machine.{Outcome}
use Rattle.rules.specs.Accepted.{ended}
use Rattle.answers.specs.declared.refusal.Refusal.TheVariants.{Absent}
use Rattle.sound_runs.proofs.Accepting.{absent, refused, uncovered, covered, run_concrete}
use Rattle.sound_runs.proofs.accepted.accepted_in.Goals as goal

pub returns-in_err-args : goal.returns-in_err-args
returns-in_err-args c =
    let p = err_from_is_err_and c.from_residual.result c.from_residual.ensures.1 in
    let e = c.in_err-args.ensures in
    let none : c.in_err-args.field-0.0 ≡ Absent = grind (arith, rw e.ok_part at e.value) in
    rw (p.1, p.2, none) (absent _ _ _ _ (sym (rw e.ok_part at c.concrete_classes_of.ensures.is_send_value)))

pub returns-in_err-check_in : goal.returns-in_err-check_in
returns-in_err-check_in c =
    let kept = sym (rw c.in_ok-args.ensures.ok_part at c.concrete_classes_of.ensures.is_send_value) in
    let q = err_from_is_err_and c.from_residual-in_err-check_in.result c.from_residual-in_err-check_in.ensures.1 in
    rw (q.1, q.2) (refused _ _ _ _ kept c.in_err-check_in.ensures)

pub returns-then-not-is_covered : goal.returns-then-not-is_covered
returns-then-not-is_covered c =
    let e = c.in_ok-args.ensures.ok_part in
    let kept = sym (rw e at c.concrete_classes_of.ensures.is_send_value) in
    let sent = rw e at c.concrete_classes_of.ensures.passes in
    uncovered _ _ _ _ kept c.in_ok-check_in.ensures (c.as_slice-classes.ensures ∙ sent.same) (sym c.is_covered.ensures ∙ c.if-not-is_covered.true)

pub sound_run-requires-clause-args_concrete : goal.sound_run-requires-clause-args_concrete
sound_run-requires-clause-args_concrete c =
    let e = c.in_ok-args.ensures.ok_part in
    let kept = sym (rw e at c.concrete_classes_of.ensures.is_send_value) in
    let sent = rw e at c.concrete_classes_of.ensures.passes in
    run_concrete _ _ _ kept (c.as_slice-classes.ensures ∙ sent.same)

pub returns : goal.returns
returns c =
    let e = c.in_ok-args.ensures.ok_part in
    let kept = sym (rw e at c.concrete_classes_of.ensures.is_send_value) in
    let sent = rw e at c.concrete_classes_of.ensures.passes in
    ap (λ (o : Outcome). gives (ended o)) c.sound_run.ensures
    ∙ covered _ _ _ _ kept c.in_ok-check_in.ensures (c.as_slice-classes.ensures ∙ sent.same) (sym c.is_covered.ensures ∙ c.if-not-is_covered.false)
