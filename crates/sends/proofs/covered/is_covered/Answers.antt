-- A signature that covers the send is one of those, and where none does none is.
-- Assumes nothing.
use Rattle.std.proofs.Common.{arith, sym, ◌∙◌}
use Rattle.rules.specs.Bounded.{upto}
use Rattle.rules.specs.Coverage.{covers_send, is_covered}
use Rattle.rules.proofs.Lists.{any_from, any_none, upto_below, below_upto}
use Rattle.layout.proofs.Opened.{counts_of}
use Rattle.sends.proofs.covered.is_covered.Goals as goal

pub returns-then-covers_send : goal.returns-then-covers_send
unfolding is_covered
returns-then-covers_send c =
    let n = (counts_of c.args.prepared.now.bundle.opened).signatures in
    sym (any_from (covers_send _ _ _) (upto _) (below_upto _ c.loop-s.s (omega (arith, n))) (sym c.covers_send.ensures ∙ c.if-covers_send.true))

pub returns : goal.returns
unfolding is_covered
returns c =
    let n = (counts_of c.args.prepared.now.bundle.opened).signatures in
    sym (any_none (covers_send _ _ _) (upto _) (λ k m. c.loop-s.invariant k (omega (arith, n, upto_below _ m))))
