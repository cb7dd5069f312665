-- `inheritance::order::walked_order` meets its contract: once all classes are placed the order is whole.
-- Assumes nothing.
use Rattle.std.proofs.Common.{refl, arith}
use borrow.Author.Count.{below_none}
use Rattle.layout.proofs.Lists.{placed_listed}
use Rattle.inheritance.proofs.Orders.{placing_none, placing_all}
use Rattle.inheritance.proofs.order.walked_order.Goals as goal

pub loop-c-init : goal.loop-c-init
loop-c-init c = record { ordered = rw c.new-order.ensures (placing_none _ _ _ refl (placed_listed c.args.bundle.now.listed).classes_limit); done = below_none _ }

pub returns : goal.returns
returns c = placing_all _ _ c.loop-c.invariant.ordered (λ d h. c.loop-c.invariant.done d (omega arith))
