-- `inheritance::order::waiting_for` meets its contract: the first parent that is not placed is the one, and else all are placed.
-- Assumes nothing.
use Rattle.std.proofs.Common.{sym, ap, not, arith}
use Rattle.rules.specs.Layout.{parents_of}
use Rattle.rules.proofs.Lists.{first_place, none_places}
use Rattle.inheritance.specs.Order.{waiting}
use Rattle.inheritance.proofs.order.waiting_for.Goals as goal

pub returns-then-not-placed-p : goal.returns-then-not-placed-p
unfolding waiting
returns-then-not-placed-p c =
    let p = c.parent-p.ensures.0 in
    let open_yet = ap not (rw p at c.if-not-placed-p.true) in
    rw p (sym (first_place _ (parents_of _ _) 0 c.loop-i.i (omega arith) open_yet c.loop-i.invariant))

pub returns : goal.returns
unfolding waiting
returns c = sym (none_places _ _ 0 (λ k h. c.loop-i.invariant k (omega arith)))
