-- `inheritance::cycle::lowest_by_closure` meets its contract: the first class that its own row has is the lowest one on a cycle.
-- Assumes nothing.
use Rattle.std.proofs.Common.{sym, ◌∙◌, arith}
use Rattle.inheritance.proofs.Search.{cycle_found, no_cycle}
use Rattle.inheritance.proofs.cycle.lowest_by_closure.Goals as goal

pub returns-then-has : goal.returns-then-has
returns-then-has c =
    cycle_found c.args.bundle.now.listed _ c.closure-rows.ensures c.loop-c.c (omega arith) (sym c.has.ensures ∙ c.if-has.true) c.loop-c.invariant

pub returns : goal.returns
returns c = no_cycle c.args.bundle.now.listed _ c.closure-rows.ensures (λ d h. c.loop-c.invariant d (omega arith))
