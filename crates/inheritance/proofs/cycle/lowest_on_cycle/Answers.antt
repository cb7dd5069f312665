-- `inheritance::cycle::lowest_on_cycle` meets its contract: an order leaves no cycle, and else the closure tells.
-- Assumes nothing.
use Rattle.std.proofs.Common.{sym, take, ◌∙◌}
use Rattle.layout.proofs.Lists.{parents_classes}
use Rattle.inheritance.proofs.Orders.{order_acyclic, order_whole}
use Rattle.inheritance.proofs.Search.{acyclic_none}
use Rattle.inheritance.proofs.cycle.lowest_on_cycle.Goals as goal

pub returns-then-is_some : goal.returns-then-is_some
returns-then-is_some c =
    acyclic_none c.args.bundle.now.listed (order_acyclic _ _ (λ order. take order.count order.classes) (parents_classes c.args.bundle.now.listed) c.class_order.result (order_whole _ _ _ (λ order. take order.count order.classes) c.class_order.result c.class_order.ensures) (sym c.is_some.ensures ∙ c.if-is_some.true))
