-- The first class that is concrete and under c is the lowest.
-- Assumes nothing.
use native.Mathlib.Omega.{arith}
use mathlib.Core.Path.{sym, ◌∙◌}
use Rattle.layout.proofs.Opened.{counts_of}
use Rattle.upper_classes.proofs.Lowest.{lowest_found, lowest_missing}
use Rattle.upper_classes.proofs.least.lowest_under.Goals as goal

pub returns-then-is_candidate : goal.returns-then-is_candidate
returns-then-is_candidate c =
    let counts = counts_of c.args.prepared.now.prepared.opened in
    lowest_found _ _ c.loop-k.k (omega arith) (sym c.is_candidate.ensures ∙ c.if-is_candidate.true) c.loop-k.invariant

pub returns : goal.returns
returns c =
    let counts = counts_of c.args.prepared.now.prepared.opened in
    lowest_missing _ _ (λ j h. c.loop-k.invariant j (omega arith))
