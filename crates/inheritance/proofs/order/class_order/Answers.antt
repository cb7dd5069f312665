-- `inheritance::order::class_order` meets its contract: numbers in which parents are lower are an order, and else the walks make one.
-- Assumes nothing.
use Rattle.std.proofs.Common.{arith, sym, ◌∙◌}
use Rattle.inheritance.proofs.Orders.{numbers_whole}
use Rattle.inheritance.proofs.order.class_order.Goals as goal

pub returns-then-in_number_order : goal.returns-then-in_number_order
returns-then-in_number_order c =
    let in_order = sym c.in_number_order.ensures ∙ c.if-in_number_order.true in
    (omega (arith, c.of.ensures.count, c.numbers.ensures.0), rw c.of.ensures.classes (numbers_whole _ _ c.numbers.result.items c.numbers.ensures.0 in_order c.numbers.ensures.1))
