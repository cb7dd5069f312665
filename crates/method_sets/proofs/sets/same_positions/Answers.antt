-- `method_sets::sets::same_positions` meets its contract: where a word differs, the third has a bit that one of the two sets has alone.
-- Assumes nothing.
use Rattle.std.proofs.Common.{arith, refl}
use Rattle.std.proofs.lemmas.Bool.{false≢true}
use Rattle.method_sets.proofs.Words.{positions_same, words_same}
use Rattle.method_sets.proofs.sets.same_positions.Goals as goal

pub returns-then-set-w : goal.returns-then-set-w
returns-then-set-w c =
    ((λ e. absurd (false≢true e)), λ f. absurd (c.if-set-w.true (words_same _ _ _ _ _ f c.loop-w.w (omega arith) (omega (arith, c.type_inv.set c.loop-w.w)))))

pub returns : goal.returns
returns c = ((λ e. positions_same _ _ _ _ _ (λ w h. c.loop-w.invariant w (omega arith))), λ f. refl)
