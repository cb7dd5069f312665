-- A search in number order, in which a signature that an earlier one implies is passed over.
-- Assumes nothing.
use Prim.Native.Nat.{◌<◌}
use native.Mathlib.Omega.{arith}
use mathlib.Core.Path.{sym, ◌∙◌}
use borrow.Author.Count.{below_more}
use Rattle.std.proofs.lemmas.Result.{err_from_is_err_and}
use Rattle.std.proofs.lemmas.Grind.{merely}
use Rattle.layout.specs.Bundles.{model}
use Rattle.tuple_search.specs.declared.question.Question.TheVariants.{Rule}
use Rattle.tuple_search.specs.Search.{Tables}
use Rattle.layout.proofs.Opened.{wellformed_of, counts_of}
use Rattle.method_sets.proofs.Rows.{tabled_none}
use Rattle.coverage.proofs.Signatures.{signature_holds, signature_implied, signature_breaks, signatures_hold}
use Rattle.coverage.proofs.signature.broken_of.Goals as goal
use Rattle.coverage.proofs.signature.broken_of.Goals.{then-not-implied+in_ok-broken_tuple, else-not-implied}

pub fill-requires-clause-zeros : goal.fill-requires-clause-zeros
fill-requires-clause-zeros c = tabled_none _ _ _

pub fill-requires-2-clause-zeros : goal.fill-requires-2-clause-zeros
fill-requires-2-clause-zeros c = tabled_none _ _ _

pub invariant_of-search : goal.invariant_of-search
invariant_of-search c =
    let M = model c.args.indexed.now.prepared.bundle in
    let counts = counts_of c.args.indexed.now.prepared.prepared.opened in
    let about : c.loop-s.s < M.signatures = omega arith in
    let tables : Tables M (Rule c.loop-s.s) c.order_methods-order.result c.fill.new.table c.fill-2.new.table =
    record { ordered = c.order_methods-order.ensures; admitting = c.fill.ensures; holding = c.fill-2.ensures } in
    record { goes_by = merely (about, tables) }

pub returns-in_err-broken_tuple : goal.returns-in_err-broken_tuple
returns-in_err-broken_tuple c =
    let p = err_from_is_err_and c.from_residual.result c.from_residual.ensures.1 in
    let counts = counts_of c.args.indexed.now.prepared.prepared.opened in
    rw (p.1, p.2) (signature_breaks _ c.loop-s.s _ _ (omega arith) c.loop-s.invariant c.in_err-broken_tuple.ensures)

pub loop-s-preserved : goal.loop-s-preserved
loop-s-preserved c =
    let l = c.loop-s in
    below_more _ _ l.invariant (elim c.if-not-implied.branch [
      | then-not-implied+in_ok-broken_tuple w ↦ signature_holds _ l.s w.in_ok-broken_tuple.ensures
      | else-not-implied w ↦ signature_implied _ (wellformed_of c.args.indexed.now.prepared.prepared.opened) l.s l.invariant (sym c.implied.ensures ∙ w.if-not-implied.false)
    ])

pub returns : goal.returns
returns c = let counts = counts_of c.args.indexed.now.prepared.prepared.opened in signatures_hold _ (λ i h. c.loop-s.invariant i (omega arith))
