-- 20, 18, 16 in that order, each with the row as it was, or the type in the row.
use borrow.Author.Rules.{rules}
use native.Mathlib.Omega.{arith}
use Prim.Native.Nat.{◌<◌, ◌≤◌}
use lib.ListN.{length}
use mathlib.Core.Path.{◌≡◌, refl, sym}
use Rattle.std.proofs.lemmas.Result.{err_from_is_err_and}
use Rattle.rules.specs.Calls.{row_on, row_bytes}
use Rattle.answers.specs.declared.refusal.Refusal.TheVariants.{Absent}
use Rattle.questions.proofs.Answered.{type_short, type_absent, type_answered, licensed_blank}
use Rattle.questions.proofs.send_type.send_type_in.Goals as goal

pub returns-then-row-lt-ROW_BYTES : goal.returns-then-row-lt-ROW_BYTES
unfolding row_on
returns-then-row-lt-ROW_BYTES c =
    let short : length c.args.row.now < row_bytes = search rules in
    rw (type_short _ _ _ _ short) (record { result_value = refl; row_after = refl })

pub returns-in_err-args : goal.returns-in_err-args
unfolding row_on
returns-in_err-args c =
    let p = err_from_is_err_and c.from_residual.result c.from_residual.ensures.1 in
    let long : row_bytes ≤ length c.args.row.now = search rules in
    let e = c.in_err-args.ensures in
    let absent : c.in_err-args.field-0.0 ≡ Absent = grind (arith, rw e.ok_part at e.value) in
    rw (p.1, p.2, absent, type_absent _ _ _ _ long (sym (rw e.ok_part at c.classes_of.ensures.is_send_value))) (record { result_value = refl; row_after = refl })

pub returns-then-send_type : goal.returns-then-send_type
returns-then-send_type c =
    let long : row_bytes ≤ length c.args.row.now = search rules in
    let e = c.in_ok-args.ensures.ok_part in
    let written = rw c.as_slice.ensures at c.send_type.ensures in
    rw (type_answered _ _ _ _ long (sym (rw e at c.classes_of.ensures.is_send_value)) (rw e at c.classes_of.ensures.passes))
    (record { result_value = (licensed_blank _ written.value).0 c.if-send_type.true; row_after = written.row_after })

pub returns-else-send_type : goal.returns-else-send_type
returns-else-send_type c =
    let long : row_bytes ≤ length c.args.row.now = search rules in
    let e = c.in_ok-args.ensures.ok_part in
    let written = rw c.as_slice.ensures at c.send_type.ensures in
    rw (type_answered _ _ _ _ long (sym (rw e at c.classes_of.ensures.is_send_value)) (rw e at c.classes_of.ensures.passes))
    (record { result_value = (licensed_blank _ written.value).1 c.if-send_type.false; row_after = written.row_after })
