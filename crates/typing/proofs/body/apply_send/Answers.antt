-- The types on top are the arguments', and the send's takes their place.
use native.Mathlib.Omega.{arith}
use Prim.Native.Nat.{◌-◌, ◌≤◌, ◌<◌}
use mathlib.Core.Path.{◌≡◌}
use Rattle.std.proofs.Common.{Some, None}
use Rattle.std.proofs.lemmas.Result.{err_from_is_err_and}
use Rattle.answers.specs.declared.number.Number.TheVariants.{BadStack, NoLicence}
use Rattle.typing.proofs.Bodies.{applied_few, applied_none, applied_send}
use Rattle.typing.proofs.body.apply_send.Goals as goal

pub returns-in_err-below : goal.returns-in_err-below
returns-in_err-below c =
    let p = err_from_is_err_and c.from_residual.result c.from_residual.ensures.1 in
    let none : c.checked_sub.result ≡ None = grind arith in
    let number : c.in_err-below.field-0.0 ≡ BadStack = grind arith in
    let few : c.len.result < c.arity-n.result = grind arith in
    rw (p.1, p.2, number) (record { in_method = λ m. applied_few _ m _ _ (omega (arith, few, c.arity-n.ensures.0)) })

pub returns-in_err-row : goal.returns-in_err-row
returns-in_err-row c =
    let p = err_from_is_err_and c.from_residual-in_err-row.result c.from_residual-in_err-row.ensures.1 in
    let some : c.checked_sub.result ≡ Some c.in_ok-below.below = grind arith in
    let none : c.send_row.result ≡ None = grind arith in
    let number : c.in_err-row.field-0.0 ≡ NoLicence = grind arith in
    let enough : c.arity-n.result ≤ c.len.result = grind arith in
    let below : c.in_ok-below.below ≡ c.len.result - c.arity-n.result = grind arith in
    rw (p.1, p.2, number)
    (record {
      in_method = λ m.
          applied_none _ m _ c.args.f c.arity-n.result c.in_ok-below.below c.arity-n.ensures.0 (omega arith) (omega arith) (rw (none, c.as_slice.ensures.value) at c.send_row.ensures);
    })

pub returns : goal.returns
returns c =
    let below-some : c.checked_sub.result ≡ Some c.in_ok-below.below = grind arith in
    let some : c.send_row.result ≡ Some c.in_ok-row.row = grind arith in
    let enough : c.arity-n.result ≤ c.len.result = grind arith in
    let below : c.in_ok-below.below ≡ c.len.result - c.arity-n.result = grind arith in
    record {
      in_method = λ m.
          applied_send _ m _ c.args.f c.arity-n.result c.in_ok-below.below c.arity-n.ensures.0 (omega arith) (omega arith) c.in_ok-row.row _
          (rw (some, c.as_slice.ensures.value) at c.send_row.ensures) (rw c.truncate.ensures.items at c.push.ensures.items);
    }
