-- A parent that breaks the rule breaks that of the list, which holds where none does.
use Rattle.std.proofs.Common.{arith}
use Rattle.rules.proofs.Decides.{broken, kept}
use Rattle.record_rules.proofs.Tests.{parents_part}
use Rattle.record_rules.proofs.class.parents_break.Goals as goal

pub returns-then-parent_breaks : goal.returns-then-parent_breaks
returns-then-parent_breaks c = broken (parents_part _ _ _ _ c.requires) c.loop-i.i (omega arith) c.parent_breaks.ensures c.if-parent_breaks.true

pub returns : goal.returns
returns c = kept (parents_part _ _ _ _ c.requires) (λ k l. c.loop-i.invariant k (omega arith))
