-- The one row's byte for the result class decides.
use native.Mathlib.Omega.{arith}
use mathlib.Core.Path.{ap}
use lib.ListN.{length}
use Rattle.subclasses.proofs.Entry.{classes_fit}
use Rattle.typing.proofs.Bodies.{ended_other, ended_miss, ended_typed}
use Rattle.typing.proofs.body.end.Goals as goal

pub returns-in_default : goal.returns-in_default
returns-in_default c = ended_other _ _ _ (λ e. omega (arith, ap length c.as_slice.ensures.value, e))

pub returns-in_default-2 : goal.returns-in_default-2
returns-in_default-2 c = ended_other _ _ _ (λ e. omega (arith, ap length c.as_slice.ensures.value, e))

pub bounds-row-c : goal.bounds-row-c
bounds-row-c c = omega (arith, c.result-c.ensures.1, classes_fit c.args.bundle.now.opened)

pub returns-then-row-c-eq0 : goal.returns-then-row-c-eq0
returns-then-row-c-eq0 c =
    let fit = classes_fit c.args.bundle.now.opened in
    let same = c.as_slice.ensures.value in
    ended_miss _ _ _ c.result-c.result (omega (arith, ap length same)) c.result-c.ensures.0 (omega (arith, c.result-c.ensures.1)) (rw same at c.if-row-c-eq0.true)

pub returns : goal.returns
returns c =
    let fit = classes_fit c.args.bundle.now.opened in
    let same = c.as_slice.ensures.value in
    ended_typed _ _ _ c.result-c.result (omega (arith, ap length same)) c.result-c.ensures.0 (omega (arith, c.result-c.ensures.1)) (rw same at c.if-row-c-eq0.false)
