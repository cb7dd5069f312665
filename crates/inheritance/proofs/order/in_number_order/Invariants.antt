-- The loop's invariant: the parents of the first c classes are lower.
-- Assumes nothing.
use Rattle.std.proofs.Common.{◌≡◌, ◌<◌, ℕ, true}
use Rattle.rules.specs.Layout.{parents_of}
use Rattle.inheritance.specs.Order.{lower}
use Rattle.inheritance.proofs.order.in_number_order.Given as goal

abbrev pub invariant-loop-c : goal.invariant-loop-c
invariant-loop-c l = (k : ℕ) → k < l.c → lower (parents_of l.bundle.bytes.now) k ≡ true
