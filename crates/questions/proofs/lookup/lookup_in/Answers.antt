-- A send that breaks its rule is 18, and the others answer by what lookup finds.
use native.Mathlib.Omega.{arith}
use mathlib.Core.Path.{◌≡◌, sym, ap, ◌∙◌}
use lib.ListN.{length}
use Rattle.std.proofs.lemmas.Result.{err_from_is_err_and}
use Rattle.layout.specs.Bundles.{model}
use Rattle.answers.specs.declared.refusal.Refusal.TheVariants.{Absent}
use Rattle.rules.proofs.Lookup.{lookup_leader}
use Rattle.questions.proofs.Answered.{lookup_absent, lookup_found, lookup_method, lookup_not_found}
use Rattle.questions.proofs.lookup.lookup_in.Goals as goal

pub returns-in_err-args : goal.returns-in_err-args
returns-in_err-args c =
    let p = err_from_is_err_and c.from_residual.result c.from_residual.ensures.1 in
    let e = c.in_err-args.ensures in
    let absent : c.in_err-args.field-0.0 ≡ Absent = grind (arith, rw e.ok_part at e.value) in
    rw (p.1, p.2, absent) (lookup_absent _ _ _ (sym (rw e.ok_part at c.classes_of.ensures.is_send_value)))

-- the method found is one of the function
pub is_exact-exact-requires : goal.is_exact-exact-requires
is_exact-exact-requires c =
    let sent = rw c.in_ok-args.ensures.ok_part at c.classes_of.ensures.passes in
    let found = rw (c.new-indexed.ensures, c.as_slice.ensures) at c.in-Ok.ensures in
    let m = (lookup_leader _ _ _ _ (sym found)).candidate in
    record { of_arity = record { bound = m.bound; arity = ap length c.as_slice-in-Ok.ensures ∙ sent.arguments.arity ∙ ap (model c.args.prepared.now.bundle).arity (sym m.of_function) } }

pub returns-in-Ok : goal.returns-in-Ok
returns-in-Ok c =
    let e = c.in_ok-args.ensures.ok_part in
    let found = rw (c.new-indexed.ensures, c.as_slice.ensures) at c.in-Ok.ensures in
    lookup_method _ _ _ (sym (rw e at c.classes_of.ensures.is_send_value)) (rw e at c.classes_of.ensures.passes) found (rw c.as_slice-in-Ok.ensures at c.is_exact-exact.ensures)

pub returns-in-Err : goal.returns-in-Err
returns-in-Err c =
    let e = c.in_ok-args.ensures.ok_part in
    let found = rw (c.new-indexed.ensures, c.as_slice.ensures) at c.in-Err.ensures in
    lookup_not_found _ _ _ c.in-Err.failed
    ∙ lookup_found _ _ _ (sym (rw e at c.classes_of.ensures.is_send_value)) (rw e at c.classes_of.ensures.passes) found
