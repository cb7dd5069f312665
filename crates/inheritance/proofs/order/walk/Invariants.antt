-- The loop's invariant: the classes placed stand in order, and the stack leads from class c to the one that is waited for. Each turn places a class or puts one more on
-- the stack.
-- Assumes nothing.
use Rattle.std.proofs.Common.{◌≡◌, ◌<◌, ◌+◌, ◌-◌, ◌*◌, ℕ, true, length}
use Rattle.rules.specs.Layout.{parents_of}
use Rattle.inheritance.specs.Order.{is_placed, Placing}
use Rattle.inheritance.proofs.Stack.{Stacked}
use Rattle.inheritance.proofs.order.walk.Given as goal

abbrev pub invariant-loop-stack : goal.invariant-loop-stack
invariant-loop-stack l = record {
  ordered : Placing (parents_of l.bundle.bytes.now) l.bundle.tables.classes l.order.items l.placed;
  stacked : Stacked (parents_of l.bundle.bytes.now) l.bundle.tables.classes l.c l.stack.items l.placed;
  still : (d : ℕ) → d < l.bundle.tables.classes → is_placed l.fn.placed d ≡ true → is_placed l.placed d ≡ true;
}

abbrev pub decreases-loop-stack : goal.decreases-loop-stack
decreases-loop-stack l = 2 * (l.bundle.tables.classes - length l.order.items) + (l.bundle.tables.classes - length l.stack.items)
