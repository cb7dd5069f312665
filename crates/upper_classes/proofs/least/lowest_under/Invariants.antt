-- The loop's invariant: no class below k is concrete and under c.
-- Assumes nothing.
use Prim.Native.Nat.{ℕ, ◌<◌}
use mathlib.Core.Path.{◌≡◌}
use mathlib.Core.Bool.{false}
use Rattle.layout.specs.Bundles.{model}
use Rattle.rules.specs.Coverage.{candidate_class}
use Rattle.upper_classes.proofs.least.lowest_under.Given as goal

abbrev pub invariant-loop-k : goal.invariant-loop-k
invariant-loop-k l = (j : ℕ) → j < l.k → candidate_class (model l.prepared.bundle) l.c j ≡ false
