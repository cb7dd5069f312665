-- Every section below k is followed by the next.
-- Assumes nothing.
use Rattle.std.proofs.Common.{ℕ, ◌<◌, ◌≡◌, true}
use Rattle.directory_rules.specs.Directory.{next_rule}
use Rattle.directory_rules.proofs.directory.joined.Given as goal

abbrev pub invariant-loop-k : goal.invariant-loop-k
invariant-loop-k l = (j : ℕ) → j < l.k → next_rule l.bytes j ≡ true
