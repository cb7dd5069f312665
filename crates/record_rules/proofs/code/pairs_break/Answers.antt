-- An instruction that breaks the rule breaks that of the code, which holds where none does.
use Rattle.std.proofs.Common.{arith}
use Rattle.rules.proofs.Decides.{broken, kept}
use Rattle.record_rules.proofs.Tests.{pairs_part}
use Rattle.record_rules.proofs.code.pairs_break.Goals as goal

pub returns-then-pair_breaks : goal.returns-then-pair_breaks
returns-then-pair_breaks c = broken (pairs_part _ _ _ _ c.requires.count_in_bounds) c.loop-i.i (omega arith) c.pair_breaks.ensures c.if-pair_breaks.true

pub returns : goal.returns
returns c = kept (pairs_part _ _ _ _ c.requires.count_in_bounds) (λ k l. c.loop-i.invariant k (omega arith))
