-- Record k is reached, with `end` as its running end.
-- Assumes nothing.
use Rattle.std.proofs.Common.{◌*◌, ◌≤◌}
use Rattle.rules.specs.Running.{Reached}
use Rattle.bundle_rules.specs.Rules.{rule_of, count_of, size_of}
use Rattle.bundle_rules.proofs.lowest.lowest_broken.Given as goal

abbrev pub invariant-loop-k : goal.invariant-loop-k
invariant-loop-k l =
    record {
      short : l.end ≤ 65535 * l.k;
      reached : Reached (rule_of l.rule l.chained.records.bytes.now) (size_of l.rule l.chained.records.bytes.now) (count_of l.rule l.chained.records.bytes.now) l.k l.end;
    }
