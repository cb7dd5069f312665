-- No signature below s is broken.
use Prim.Native.Nat.{ℕ, ◌<◌}
use mathlib.Core.Path.{◌≡◌}
use mathlib.Core.Bool.{false}
use Rattle.layout.specs.Bundles.{model}
use Rattle.rules.specs.Coverage.{broken_tuple, is_some}
use Rattle.coverage.proofs.signature.broken_of.Given as goal

abbrev pub invariant-loop-s : goal.invariant-loop-s
invariant-loop-s l = (i : ℕ) → i < l.s → is_some (broken_tuple (model l.indexed.prepared.bundle) i) ≡ false
