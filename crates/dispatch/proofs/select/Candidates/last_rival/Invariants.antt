-- The loop's invariant: the rivals before `at` are those before the end, so there is one.
use Rattle.std.proofs.Common.{◌≡◌}
use Rattle.layout.specs.Bundles.{model}
use Rattle.dispatch.specs.Rivals.{rivals_before}
use Rattle.dispatch.proofs.select.Candidates.last_rival.Given as goal

abbrev pub invariant-loop-at : goal.invariant-loop-at
invariant-loop-at l = rivals_before (model l.self.prepared.now.bundle) l.self.list.now l.at ≡ rivals_before (model l.self.prepared.now.bundle) l.self.list.now l.end
