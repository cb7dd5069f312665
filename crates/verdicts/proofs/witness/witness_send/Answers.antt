-- What is no witness is 18, and the others answer by the coverage rule.
use native.Mathlib.Omega.{arith}
use mathlib.Core.Path.{◌≡◌, refl, sym, ◌∙◌}
use Rattle.std.proofs.lemmas.Result.{err_from_is_err_and}
use Rattle.answers.specs.Send.{tuple_of}
use Rattle.answers.specs.declared.refusal.Refusal.TheVariants.{Absent}
use Rattle.coverage_rule.proofs.Judging.{not_refused, is_refused}
use Rattle.verdicts.proofs.Answered.{witness_unsent, witness_apart, witness_judged, witness_send}
use Rattle.verdicts.proofs.witness.witness_send.Goals as goal

pub returns-in_err-args : goal.returns-in_err-args
returns-in_err-args c =
    let r = c.requires in
    let p = err_from_is_err_and c.from_residual.result c.from_residual.ensures.1 in
    let e = c.in_err-args.ensures in
    let absent : c.in_err-args.field-0.0 ≡ Absent = grind (arith, rw e.ok_part at e.value) in
    rw (p.1, p.2, absent)
    (witness_unsent c.args.prepared.now.bundle.opened _ _ _ r.signature_lt_signatures r.function_value (sym (rw e.ok_part at c.classes_of.ensures.is_send_value)))

pub returns-then-not-is_witness : goal.returns-then-not-is_witness
returns-then-not-is_witness c =
    let r = c.requires in
    let e = c.in_ok-args.ensures.ok_part in
    witness_apart c.args.prepared.now.bundle.opened _ _ _ r.signature_lt_signatures r.function_value (sym (rw e at c.classes_of.ensures.is_send_value))
    (rw e at c.classes_of.ensures.passes) (sym (rw c.as_slice-classes.ensures at c.is_witness.ensures) ∙ c.if-not-is_witness.true)

pub returns-in-Ok : goal.returns-in-Ok
returns-in-Ok c =
    let r = c.requires in
    let e = c.in_ok-args.ensures.ok_part in
    witness_judged c.args.prepared.now.bundle.opened _ _ _ r.signature_lt_signatures r.function_value (sym (rw e at c.classes_of.ensures.is_send_value))
    (rw e at c.classes_of.ensures.passes) (sym (rw c.as_slice-classes.ensures at c.is_witness.ensures) ∙ c.if-not-is_witness.false)
    (not_refused _ _ _ (rw c.as_slice-classes.ensures at c.in-Ok.ensures))

pub returns-in-Err : goal.returns-in-Err
returns-in-Err c =
    let o = c.args.prepared.now.bundle.opened in
    let r = c.requires in
    let e = c.in_ok-args.ensures.ok_part in
    let kept = sym (rw e at c.classes_of.ensures.is_send_value) in
    let passes = rw e at c.classes_of.ensures.passes in
    let named = witness_send o _ _ (tuple_of c.args.send) r.signature_lt_signatures r.function_value kept passes refl in
    witness_judged o _ _ _ r.signature_lt_signatures r.function_value kept passes
    (sym (rw c.as_slice-classes.ensures at c.is_witness.ensures) ∙ c.if-not-is_witness.false)
    (is_refused _ _ _ named (rw c.as_slice-classes.ensures at c.in-Err.ensures))
