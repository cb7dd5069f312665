-- The walk begins at the method's own entry, goes from a method that is no twin to the next lower one, and ends where none is left.
-- Assumes nothing.
use Rattle.std.proofs.Common.{arith, sym, ap, not, ◌∙◌}
use Rattle.rules.proofs.Decides.{kept}
use Rattle.twin_rule.proofs.Twins.{twin_decides}
use Rattle.twin_rule.proofs.Chains.{entry_read, walk_begins, walk_next}
use Rattle.twin_rule.proofs.chain.ChainedRecords.has_twin.Goals as goal

pub loop-next-init : goal.loop-next-init
loop-next-init c =
    rw (entry_read c.from.result _ c.checked_sub-next.ensures, c.from.ensures)
    (walk_begins c.args.self.now.records.placed c.args.self.now.chained _ c.requires)

pub returns-then-are_twins : goal.returns-then-are_twins
returns-then-are_twins c =
    let w = rw c.in-Some.is at c.loop-next.invariant in
    sym (ap not ((twin_decides _ _).breaks c.in-Some.n (omega (arith, w.within)) (ap not (sym c.are_twins.ensures ∙ c.if-are_twins.true))))

pub loop-next-preserved : goal.loop-next-preserved
loop-next-preserved c =
    let w = rw c.in-Some.is at c.loop-next.invariant in
    rw (entry_read c.from-in-Some.result _ c.checked_sub-next-in-Some.ensures, c.from-in-Some.ensures)
    (walk_next c.args.self.now.records.placed c.args.self.now.chained _ c.requires _ w (sym c.are_twins.ensures ∙ c.if-are_twins.false))

pub returns : goal.returns
returns c =
    let w = rw c.in_default.is at c.loop-next.invariant in
    kept (twin_decides _ _) (λ j h. ap not (w.passed j (omega arith) h))
