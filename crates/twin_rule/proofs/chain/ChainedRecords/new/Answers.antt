-- With each method the chains have one more, and in the end all.
-- Assumes nothing.
use Rattle.std.proofs.Common.{◌≡◌, arith, sym, subst}
use Rattle.rules.specs.Layout.{method_count}
use Rattle.twin_rule.specs.Chain.{ChainedBelow, chained}
use Rattle.twin_rule.proofs.Chains.{chain_none, chain_more}
use Rattle.twin_rule.proofs.chain.ChainedRecords.new.Goals as goal

pub loop-m-init : goal.loop-m-init
loop-m-init c = chain_none _

pub loop-m-preserved : goal.loop-m-preserved
loop-m-preserved c = chain_more _ _ _ _ c.loop-m.invariant (sym c.bucket-at.ensures.0) (omega arith) (omega arith)

pub invariant_of-result : goal.invariant_of-result
invariant_of-result c =
    let b = c.args.records.now.bytes.now in
    let all : c.loop-m.m ≡ method_count b = omega (arith, c.args.records.now.placed.tables.methods) in
    record { chained = chained (subst (ChainedBelow b c.loop-m.chains) all c.loop-m.invariant) }
