-- No record breaks one of the first i rules.
use Rattle.bundle_rules.proofs.Order.{Kept}
use Rattle.bundle_rules.specs.Rules.{order}
use Rattle.bundle_rules.proofs.opening.records_opening.Given as goal

abbrev pub invariant-loop-rule : goal.invariant-loop-rule
invariant-loop-rule l = Kept order l.rule-index l.records.bytes.now
