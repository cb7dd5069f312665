-- Every class before this one is concrete.
-- Assumes nothing.
use Rattle.std.proofs.Common.{ℕ, ◌<◌, ◌≡◌, true, get_or}
use Rattle.layout.specs.Bundles.{model}
use Rattle.sends.proofs.send.all_concrete.Given as goal

abbrev pub invariant-loop-class : goal.invariant-loop-class
invariant-loop-class l = (k : ℕ) → k < l.class-index → (model l.bundle).concrete (get_or l.args k 0) ≡ true
