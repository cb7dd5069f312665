-- The loop's invariant: the first i parents are placed.
-- Assumes nothing.
use Rattle.std.proofs.Common.{◌≡◌, ◌<◌, ℕ, get_or, false, not}
use Rattle.rules.specs.Layout.{parents_of}
use Rattle.inheritance.specs.Order.{is_placed}
use Rattle.inheritance.proofs.order.waiting_for.Given as goal

abbrev pub invariant-loop-i : goal.invariant-loop-i
invariant-loop-i l = (k : ℕ) → k < l.i → not (is_placed l.placed (get_or (parents_of l.bundle.bytes.now l.c) k 0)) ≡ false
