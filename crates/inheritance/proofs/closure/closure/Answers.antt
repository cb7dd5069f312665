-- `inheritance::closure::closure` meets its contract: each turn is a round.
-- Assumes nothing.
use Rattle.std.proofs.Common.{arith}
use Rattle.layout.proofs.Lists.{placed_listed}
use Rattle.inheritance.proofs.Rounds.{round_through}
use Rattle.inheritance.proofs.closure.closure.Goals as goal

pub loop-k-preserved : goal.loop-k-preserved
loop-k-preserved c =
    round_through _ _ c.loop-k.rows _ c.loop-k.k (omega arith) (placed_listed c.args.bundle.now.listed).classes_limit c.loop-k.invariant c.through_class.ensures
