-- A place that breaks the rule breaks that of the tuple, which holds where none does.
use Rattle.std.proofs.Common.{arith, ap, not}
use Rattle.rules.proofs.Decides.{broken, kept}
use Rattle.record_rules.proofs.Tests.{tuple_part}
use Rattle.record_rules.proofs.tuple.tuple_breaks.Goals as goal

pub returns-then-not-fits : goal.returns-then-not-fits
returns-then-not-fits c = broken (tuple_part _ _ _ _ _ c.requires) c.loop-i.i (omega arith) (cc) (ap not c.if-not-fits.true)

pub returns : goal.returns
returns c = kept (tuple_part _ _ _ _ _ c.requires) (λ k l. c.loop-i.invariant k (omega arith))
