-- The loop's invariant: no class below c has itself in its row.
-- Assumes nothing.
use Rattle.std.proofs.Common.{◌≡◌, ◌<◌, ℕ, false}
use Rattle.inheritance.specs.Rows.{rows_have}
use Rattle.inheritance.proofs.cycle.lowest_by_closure.Given as goal

abbrev pub invariant-loop-c : goal.invariant-loop-c
invariant-loop-c l = (d : ℕ) → d < l.c → rows_have l.rows d d ≡ false
