-- 18 for a send that breaks its rule or has an abstract class, or the machine's outcome.
use native.Mathlib.Omega.{arith}
use mathlib.Core.Path.{◌≡◌, sym}
use Rattle.std.proofs.lemmas.Result.{err_from_is_err_and}
use Rattle.answers.specs.declared.refusal.Refusal.TheVariants.{Absent}
use Rattle.runs.proofs.Answered.{run_absent, run_ended}
use Rattle.runs.proofs.run.run_in.Goals as goal

pub returns-in_err-args : goal.returns-in_err-args
returns-in_err-args c =
    let p = err_from_is_err_and c.from_residual.result c.from_residual.ensures.1 in
    let e = c.in_err-args.ensures in
    let absent : c.in_err-args.field-0.0 ≡ Absent = grind (arith, rw e.ok_part at e.value) in
    rw (p.1, p.2, absent) (run_absent _ _ _ _ (sym (rw e.ok_part at c.concrete_classes_of.ensures.is_send_value)))

pub returns : goal.returns
returns c =
    let e = c.in_ok-args.ensures.ok_part in
    run_ended _ _ _ _ (sym (rw e at c.concrete_classes_of.ensures.is_send_value)) (rw e at c.concrete_classes_of.ensures.passes)
    (rw c.as_slice.ensures at c.run.ensures)
