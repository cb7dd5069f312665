use Rattle.std.proofs.Common.{arith, ◌-◌, ◌<◌, sym, ◌∙◌}
use Rattle.dispatch.proofs.Listed.{candidate_at}
use Rattle.dispatch.proofs.Rivals.{before_some, before_hit, before_miss}
use Rattle.dispatch.proofs.select.Candidates.last_rival.Goals as goal

pub unbeaten-requires : goal.unbeaten-requires
unbeaten-requires c = rw c.from.ensures (candidate_at c.args.self.now.candidates (c.loop-at.at - 1) (omega arith))

pub returns-then-unbeaten : goal.returns-then-unbeaten
returns-then-unbeaten c =
    let l = c.loop-at in
    let hit = before_hit _ _ l.at c.loop-at-test.true (omega arith) (rw c.from.ensures at (sym c.unbeaten.ensures ∙ c.if-unbeaten.true)) in
    record { within = omega arith; last = sym l.invariant ∙ hit.last }

pub loop-at-preserved : goal.loop-at-preserved
loop-at-preserved c =
    let l = c.loop-at in
    before_miss _ _ l.at c.loop-at-test.true (omega arith) (rw c.from.ensures at (sym c.unbeaten.ensures ∙ c.if-unbeaten.false)) ∙ l.invariant

pub unreachable-requires : goal.unreachable-requires
unreachable-requires c =
    let some : 0 < c.loop-at.at = before_some _ _ _ (rw (sym c.loop-at.invariant) at c.requires.nonzero) in
    omega arith
