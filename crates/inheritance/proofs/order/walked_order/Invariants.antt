-- The loop's invariant: the classes placed stand in order, and the first c are among them.
-- Assumes nothing.
use Rattle.std.proofs.Common.{◌≡◌, ◌<◌, ℕ, true}
use Rattle.rules.specs.Layout.{parents_of}
use Rattle.inheritance.specs.Order.{is_placed, Placing}
use Rattle.inheritance.proofs.order.walked_order.Given as goal

abbrev pub invariant-loop-c : goal.invariant-loop-c
invariant-loop-c l = record {
  ordered : Placing (parents_of l.bundle.bytes.now) l.bundle.tables.classes l.order.items l.placed;
  done : (d : ℕ) → d < l.c → is_placed l.placed d ≡ true;
}
