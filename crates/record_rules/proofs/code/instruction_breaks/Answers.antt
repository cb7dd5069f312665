-- An unknown operation breaks the rule whatever its operand is, and one of the four where its operand is not below its limit.
use Rattle.std.proofs.Common.{arith, sym, ap, not, ◌∙◌}
use borrow.Author.Tests.{le-ltb}
use Rattle.rules.proofs.Decides.{leb_not_ltb}
use Rattle.record_rules.proofs.Tests.{unknown_breaks, known_decides}
use Rattle.record_rules.proofs.code.instruction_breaks.Goals as goal

pub returns-then-operation-ge-OTHERS : goal.returns-then-operation-ge-OTHERS
returns-then-operation-ge-OTHERS c =
    let high = c.if-operation-ge-OTHERS.true in
    leb_not_ltb _ _ ∙ ap not (le-ltb _ _ high ∙ sym (unknown_breaks _ c.requires c.args.operation c.args.operand high))

pub returns-else-operation-ge-OTHERS : goal.returns-else-operation-ge-OTHERS
returns-else-operation-ge-OTHERS c =
    leb_not_ltb _ _ ∙ ap not (sym (known_decides _ c.requires c.args.operation c.args.operand (omega arith)))
