-- `inheritance::closure::parent_set` meets its contract: each turn adds one parent more.
-- Assumes nothing.
use Rattle.std.proofs.Common.{arith}
use Rattle.rules.specs.Layout.{parents_of}
use Rattle.inheritance.proofs.Words.{empty_set}
use Rattle.inheritance.proofs.Rounds.{parents_none, parents_more}
use Rattle.inheritance.proofs.closure.parent_set.Goals as goal

pub loop-i-init : goal.loop-i-init
loop-i-init c = parents_none _ _ empty_set

pub loop-i-preserved : goal.loop-i-preserved
loop-i-preserved c =
    parents_more (parents_of c.args.bundle.now.bytes.now c.args.c) c.loop-i.set _ _ c.loop-i.i c.parent-p.result c.loop-i.invariant (omega arith) c.parent-p.ensures.0
    c.only.ensures c.union-set.ensures
