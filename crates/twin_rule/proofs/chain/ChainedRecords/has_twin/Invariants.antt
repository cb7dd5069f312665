-- A walk down the chain of the method's bucket.
-- Assumes nothing.
use Rattle.twin_rule.proofs.Chains.{Walking, entry_to}
use Rattle.twin_rule.proofs.chain.ChainedRecords.has_twin.Given as goal

abbrev pub invariant-loop-next : goal.invariant-loop-next
invariant-loop-next l = Walking l.self.records.bytes.now l.m (entry_to l.next)

abbrev pub decreases-loop-next : goal.decreases-loop-next
decreases-loop-next l = entry_to l.next
