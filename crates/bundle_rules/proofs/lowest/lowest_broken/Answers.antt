-- A record that keeps the rule hands the running end to the next, and the first that does not is the lowest.
-- Assumes nothing.
use Rattle.std.proofs.Common.{◌≡◌, ◌+◌, arith, sym, subst, ◌∙◌}
use borrow.Author.Tests.{not-true}
use Rattle.rules.specs.Running.{Reached, first, next}
use Rattle.rules.proofs.Opening.{none_broken}
use Rattle.rules.proofs.Running.{running_end, lower_kept, sum_next}
use Rattle.rules.proofs.Decides.{passed}
use Rattle.bundle_rules.specs.Rules.{rule_of, count_of, size_of}
use Rattle.bundle_rules.proofs.Search.{broken_found}
use Rattle.bundle_rules.proofs.lowest.lowest_broken.Goals as goal

pub loop-k-init : goal.loop-k-init
loop-k-init c = record { short = omega arith; reached = first }

pub record_breaks-requires-clause-end_value : goal.record_breaks-requires-clause-end_value
record_breaks-requires-clause-end_value c = running_end c.loop-k.invariant.reached

pub returns-then-record_breaks : goal.returns-then-record_breaks
returns-then-record_breaks c =
    let rule = rule_of c.args.rule c.args.chained.now.records.bytes.now in
    broken_found rule (count_of c.args.rule c.args.chained.now.records.bytes.now) c.loop-k.k (omega arith)
    (not-true (rule c.loop-k.k) (sym c.record_breaks.ensures ∙ c.if-record_breaks.true))
    (lower_kept c.loop-k.invariant.reached)

pub advanced-end-requires-clause-end_value : goal.advanced-end-requires-clause-end_value
advanced-end-requires-clause-end_value c = (running_end c.loop-k.invariant.reached, c.loop-k.invariant.short)

pub loop-k-preserved : goal.loop-k-preserved
loop-k-preserved c =
    let l = c.loop-k in
    let a = c.args in
    let b = a.chained.now.records.bytes.now in
    let size = size_of a.rule b in
    let ahead : l.end + size l.k ≡ c.advanced-end.result = omega (arith, running_end l.invariant.reached, sum_next size l.k) in
    record {
      short = c.advanced-end.ensures.1;
      reached =
          subst (Reached (rule_of a.rule b) size (count_of a.rule b) (l.k + 1)) ahead
          (next l.invariant.reached (omega arith) (passed c.record_breaks.ensures c.if-record_breaks.false));
    }

pub returns : goal.returns
returns c =
    sym (none_broken (rule_of c.args.rule c.args.chained.now.records.bytes.now) (count_of c.args.rule c.args.chained.now.records.bytes.now)
    (λ k h. lower_kept c.loop-k.invariant.reached k (omega arith)))
