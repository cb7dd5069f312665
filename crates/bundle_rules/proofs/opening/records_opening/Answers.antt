-- `bundle_rules::opening::records_opening`: the first rule that a record breaks gives the answer.
-- Assumes nothing.
use native.Mathlib.Omega.{arith}
use borrow.Author.Count.{below_more}
use mathlib.Core.Path.{sym}
use Rattle.std.proofs.lemmas.List.{get_or_default}
use Rattle.answers.specs.declared.opening.Rule.TheVariants.{Class, Code}
use Rattle.bundle_rules.specs.Rules.{order}
use Rattle.bundle_rules.proofs.Order.{first_broken, none_broken, answered, presumed}
use Rattle.bundle_rules.proofs.opening.records_opening.Goals as goal

pub lowest_broken-requires : goal.lowest_broken-requires
lowest_broken-requires c =
    let i = c.loop-rule.rule-index in
    rw (get_or_default order i Class Code (omega arith), c.new-chained.ensures) (presumed i c.args.records.now.bytes.now (omega arith) c.loop-rule.invariant)

pub returns-in-Some : goal.returns-in-Some
returns-in-Some c =
    let l = c.loop-rule in
    let same = get_or_default order l.rule-index Class Code (omega arith) in
    let found = answered (rw c.new-chained.ensures at c.lowest_broken.ensures) c.in-Some.is in
    (rw same (sym (first_broken order l.rule-index c.in-Some.k _ (omega arith) l.invariant (rw same at found))), tt)

pub loop-rule-preserved : goal.loop-rule-preserved
loop-rule-preserved c =
    let none = answered (rw c.new-chained.ensures at c.lowest_broken.ensures) c.in_default.is in
    let same = get_or_default order c.loop-rule.rule-index Class Code (omega arith) in
    below_more _ _ c.loop-rule.invariant (rw same at none)

pub returns : goal.returns
returns c =
    let t = c.args.records.now.placed.tables in
    (rw (t.classes, t.functions, t.signatures, t.methods) (sym (none_broken order _ (λ j m. c.loop-rule.invariant j (omega arith)))), t)
