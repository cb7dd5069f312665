-- `inheritance::closure::parent_rows` meets its contract: each turn makes one row more.
-- Assumes nothing.
use Rattle.std.proofs.Common.{arith}
use Rattle.layout.proofs.Lists.{placed_listed}
use Rattle.inheritance.specs.Closure.{through}
use Rattle.inheritance.proofs.Rounds.{rows_more}
use Rattle.inheritance.proofs.closure.parent_rows.Goals as goal

pub loop-c-preserved : goal.loop-c-preserved
unfolding through
loop-c-preserved c =
    rows_more _ c.loop-c.rows _ c.loop-c.c c.loop-c.invariant (omega (arith, (placed_listed c.args.bundle.now.listed).classes_limit)) c.parent_set.ensures
