-- `method_sets::table::word_above` meets its contract.
-- Assumes nothing.
use Rattle.std.proofs.Common.{◌-◌, length, arith, ap, ◌∙◌}
use borrow.Author.Tests.{lt-ltb, le-ltb}
use Rattle.rules.specs.Bytes.{byte}
use Rattle.rules.specs.Scratch.{entry_at}
use Rattle.method_sets.specs.Sets.{column_above}
use Rattle.method_sets.proofs.Words.{packed_none, packed_next}
use Rattle.method_sets.proofs.table.word_above.Goals as goal

pub loop-i-init : goal.loop-i-init
unfolding column_above
loop-i-init c = packed_none c.word_end-i.ensures (λ j h. rw (le-ltb j (length c.args.column.now) h))

pub under-requires-clause-c_lt_max_classes : goal.under-requires-clause-c_lt_max_classes
unfolding byte
under-requires-clause-c_lt_max_classes c =
    rw c.byte_at.ensures.0 (c.requires.in_matrix (c.loop-i.i - 1) (omega (arith, c.loop-i.invariant.within (omega arith))))

pub loop-i-preserved : goal.loop-i-preserved
unfolding byte column_above
loop-i-preserved c =
    let column = c.args.column.now in
    let entry = c.under.ensures ∙ ap (entry_at _ _) c.byte_at.ensures.0 in
    rw c.doubled-bits.ensures (packed_next c.loop-i.invariant (omega arith) _ (rw (lt-ltb (c.loop-i.i - 1) (length column) (omega (arith, c.loop-i.invariant.within (omega arith)))) entry))
