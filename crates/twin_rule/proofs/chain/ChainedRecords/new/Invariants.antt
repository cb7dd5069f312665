-- The methods below m are chained.
-- Assumes nothing.
use Rattle.twin_rule.specs.Chain.{ChainedBelow}
use Rattle.twin_rule.proofs.chain.ChainedRecords.new.Given as goal

abbrev pub invariant-loop-m : goal.invariant-loop-m
invariant-loop-m l = ChainedBelow l.records.bytes.now l.chains l.m
