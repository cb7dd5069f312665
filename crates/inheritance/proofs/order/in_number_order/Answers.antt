-- `inheritance::order::in_number_order` meets its contract: a class with a parent that is not lower tells, and else every class has been asked.
-- Assumes nothing.
use Rattle.std.proofs.Common.{sym, ◌∙◌, arith}
use Rattle.rules.specs.Layout.{parents_of}
use Rattle.rules.proofs.Decides.{every_upto}
use Rattle.inheritance.specs.Order.{lower, in_number_order}
use Rattle.inheritance.proofs.order.in_number_order.Goals as goal

pub returns-then-not-parents_lower : goal.returns-then-not-parents_lower
unfolding in_number_order
returns-then-not-parents_lower c =
    sym ((every_upto (lower (parents_of c.args.bundle.now.bytes.now)) c.args.bundle.now.tables.classes).breaks c.loop-c.c (omega arith) (sym c.parents_lower.ensures ∙ c.if-not-parents_lower.true))

pub returns : goal.returns
unfolding in_number_order
returns c = sym ((every_upto (lower (parents_of c.args.bundle.now.bytes.now)) c.args.bundle.now.tables.classes).holds (λ k h. c.loop-c.invariant k (omega arith)))
