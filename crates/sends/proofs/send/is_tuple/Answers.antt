-- A place that breaks the rule breaks that of the tuple, which holds where none does.
-- Assumes nothing.
use Rattle.std.proofs.Common.{arith, sym, ◌∙◌}
use Rattle.rules.proofs.Decides.{tuple_decides}
use Rattle.sends.proofs.send.is_tuple.Goals as goal

pub returns-then-not-fits : goal.returns-then-not-fits
returns-then-not-fits c = sym ((tuple_decides _ _ _).breaks c.loop-i.i (omega arith) (sym c.fits.ensures ∙ c.if-not-fits.true))

pub returns : goal.returns
returns c = sym ((tuple_decides _ _ _).holds (λ k h. c.loop-i.invariant k (omega arith)))
