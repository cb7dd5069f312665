-- What the search of all tuples below the signature's classes finds is its first broken tuple.
-- Assumes nothing.
use native.Mathlib.Omega.{arith}
use mathlib.Core.Path.{sym, ap, ◌∙◌}
use Rattle.layout.proofs.Opened.{counts_of, wellformed_of}
use Rattle.tuple_search.specs.Searches.{searched}
use Rattle.coverage.proofs.Signatures.{stop_broken, tuple_none, signature_arguments, broken_places}
use Rattle.coverage.proofs.signature.broken_tuple.Goals as goal

pub first_stop-requires : goal.first_stop-requires
first_stop-requires c =
    let o = c.args.search.now.indexed.now.prepared.prepared.opened in
    let counts = counts_of o in
    rw (c.signature_classes-upper.ensures.result_value, c.requires.question_value) (signature_arguments (wellformed_of o) c.args.s (omega arith))

pub broken_by-requires-clause-first_broken : goal.broken_by-requires-clause-first_broken
broken_by-requires-clause-first_broken c =
    let o = c.args.search.now.indexed.now.prepared.prepared.opened in
    let counts = counts_of o in
    let long = c.arity-n.ensures.0 ∙ ap (searched c.args.search.now).arity c.sig_function-f.ensures.0 in
    let (t, stops, same) = rw (c.signature_classes-upper.ensures.result_value, c.requires.question_value) at c.in-Some.ensures in
    broken_places (wellformed_of o) c.args.s _ _ t (omega arith) long (sym (stop_broken _ _) ∙ stops) same

pub returns-in-None : goal.returns-in-None
returns-in-None c =
    let stopped = rw (c.signature_classes-upper.ensures.result_value, c.requires.question_value) at c.in-None.ensures in
    tuple_none _ _ (sym (stop_broken _ _) ∙ stopped)
