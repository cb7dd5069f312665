-- A body that breaks is the first, and where none does all type.
use borrow.Author.Count.{below_more}
use native.Mathlib.Omega.{arith}
use mathlib.Core.Path.{sym}
use Rattle.layout.proofs.Opened.{counts_of}
use Rattle.typing.specs.Bodies.{typing_of}
use Rattle.typing.proofs.Broken.{method_broken, methods_typed}
use Rattle.typing.proofs.methods.type_bodies.Goals as goal

pub returns-in-Err : goal.returns-in-Err
unfolding typing_of
returns-in-Err c =
    let n = (counts_of c.args.prepared.now.bundle.opened).methods in
    method_broken _ _ _ _ (omega (arith, n)) c.loop-m.invariant (sym (rw c.new-indexed.ensures at c.in-Err.ensures))

pub loop-m-preserved : goal.loop-m-preserved
unfolding typing_of
loop-m-preserved c = below_more _ _ c.loop-m.invariant (sym (rw c.new-indexed.ensures at c.in_default.ensures))

pub returns : goal.returns
returns c =
    let n = (counts_of c.args.prepared.now.bundle.opened).methods in
    methods_typed _ (λ m h. c.loop-m.invariant m (omega (arith, n)))
