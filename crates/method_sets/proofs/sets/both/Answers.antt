-- `method_sets::sets::both` meets its contract.
-- Assumes nothing.
use Rattle.std.proofs.Common.{◌≡◌, ◌+◌, get_or, bit_and, arith, refl, ◌∙◌, length-set}
use Rattle.method_sets.proofs.Stored.{stored_more}
use Rattle.method_sets.proofs.Words.{both_words}
use Rattle.method_sets.proofs.sets.both.Goals as goal

pub loop-w-preserved : goal.loop-w-preserved
loop-w-preserved c =
    let l = c.loop-w in
    let a = c.args in
    record {
      long = length-set l.part l.w _ ∙ l.invariant.long;
      words = stored_more (λ k x. x ≡ bit_and (get_or a.set.now k 0) (get_or a.table.now (a.at + k) 0)) l.part l.w _ (omega arith) l.invariant.words refl;
    }

pub returns : goal.returns
returns c = both_words _ _ _ _ (λ w h. c.loop-w.invariant.words w (omega arith))
