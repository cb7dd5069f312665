-- `inheritance::order::parents_lower` meets its contract: a list with no parent has none that is not lower, and of another the last one tells.
-- Assumes nothing.
use Rattle.std.proofs.Common.{ℕ, ◌≡◌, sym, true, List, [], arith}
use lib.Seq.{take_all}
use Rattle.rules.specs.Bounded.{every}
use Rattle.rules.specs.Layout.{parents_of, rises}
use Rattle.rules.specs.Cycles.{listed_rule}
use Rattle.rules.proofs.Lists.{and_left, and_right}
use Rattle.layout.proofs.Lists.{class_kept}
use Rattle.inheritance.specs.Order.{lower}
use Rattle.inheritance.proofs.Orders.{last_tells}
use Rattle.inheritance.proofs.order.parents_lower.Goals as goal

rising : (b : List ℕ) (c : ℕ) → listed_rule b c ≡ true → rises (parents_of b c) ≡ true
unfolding listed_rule
rising b c rule = search (and_left, and_right)

pub returns-then-n-eq0 : goal.returns-then-n-eq0
unfolding lower every
returns-then-n-eq0 c =
    let none = c.parent_count-n.ensures.0 in
    let empty : parents_of c.args.bundle.now.bytes.now c.args.c ≡ [] = sym (take_all 0 (parents_of c.args.bundle.now.bytes.now c.args.c) (omega (arith, none, c.if-n-eq0.true))) in
    rw empty

pub returns : goal.returns
unfolding lower
returns c =
    let b = c.args.bundle.now.bytes.now in
    let count = c.parent_count-n.ensures.0 in
    rw c.parent.ensures.0
    (sym (last_tells c.args.c _ (parents_of b c.args.c) (rising b c.args.c (class_kept c.args.bundle.now.listed c.args.c c.requires)) (omega (arith, count, c.if-n-eq0.false))))
