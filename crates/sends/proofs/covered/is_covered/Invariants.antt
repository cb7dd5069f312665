-- No signature before s covers the send.
-- Assumes nothing.
use Rattle.std.proofs.Common.{ℕ, ◌<◌, ◌≡◌, false}
use Rattle.layout.specs.Bundles.{model}
use Rattle.rules.specs.Coverage.{covers_send}
use Rattle.sends.proofs.covered.is_covered.Given as goal

abbrev pub invariant-loop-s : goal.invariant-loop-s
invariant-loop-s l = (k : ℕ) → k < l.s → covers_send (model l.prepared.bundle) l.f l.args k ≡ false
