-- The tuple is judged once more, for its reason and the methods beside it.
-- Assumes nothing.
use native.Mathlib.Omega.{arith}
use Prim.Native.Nat.{ℕ}
use mathlib.Core.Path.{ap, ◌∙◌}
use mathlib.Core.List.{◌∷◌}
use Rattle.rules.specs.Layout.{padded}
use Rattle.layout.proofs.Opened.{counts_of, wellformed_of}
use Rattle.coverage_rule.proofs.Judging.{not_refused, is_refused}
use Rattle.subclasses.proofs.Asked.{arguments_places}
use Rattle.coverage.proofs.Signatures.{tuple_some, tuple_arguments}
use Rattle.coverage.proofs.signature.broken_by.Goals as goal

pub lookup-found-requires : goal.lookup-found-requires
lookup-found-requires c =
    let o = c.args.indexed.now.prepared.prepared.opened in
    let counts = counts_of o in
    rw c.sig_function-f.ensures.0 (tuple_arguments _ (wellformed_of o) _ _ (omega arith) c.requires.first_broken)

pub judge_found-requires-clause-arguments : goal.judge_found-requires-clause-arguments
judge_found-requires-clause-arguments c =
    let o = c.args.indexed.now.prepared.prepared.opened in
    let counts = counts_of o in
    tuple_arguments _ (wellformed_of o) _ _ (omega arith) c.requires.first_broken

pub judge_found-requires-clause-found_value : goal.judge_found-requires-clause-found_value
judge_found-requires-clause-found_value c = rw c.sig_function-f.ensures.0 at c.lookup-found.ensures

pub of-requires : goal.of-requires
of-requires c =
    let o = c.args.indexed.now.prepared.prepared.opened in
    let counts = counts_of o in
    arguments_places o (tuple_arguments _ (wellformed_of o) c.args.s _ (omega arith) c.requires.first_broken)

pub returns-in-Ok : goal.returns-in-Ok
returns-in-Ok c = tuple_some _ _ c.requires.first_broken (not_refused _ _ _ c.in-Ok.ensures)

pub returns-in-Err : goal.returns-in-Err
returns-in-Err c =
    let sent = c.of.ensures ∙ ap (λ (f : ℕ). f ∷ padded c.args.args.now) c.sig_function-f.ensures.0 in
    tuple_some _ _ c.requires.first_broken (is_refused _ _ _ sent c.in-Err.ensures)
