-- `method_sets::sets::first_position` meets its contract.
-- Assumes nothing.
use Rattle.std.proofs.Common.{arith}
use Rattle.method_sets.proofs.Words.{lowest_position, before_lowest}
use Rattle.method_sets.proofs.sets.first_position.Goals as goal

pub returns-then-bit-lt-WORD_BITS : goal.returns-then-bit-lt-WORD_BITS
returns-then-bit-lt-WORD_BITS c =
    let set = c.args.set.now in (
      omega arith,
      record {
        limit = omega arith;
        member = λ h. lowest_position set c.loop-w.w c.if-bit-lt-WORD_BITS.true;
        before = before_lowest set c.loop-w.w c.loop-w.invariant;
      },
    )

pub loop-w-preserved : goal.loop-w-preserved
loop-w-preserved c i h = before_lowest c.args.set.now c.loop-w.w c.loop-w.invariant i (omega arith)
