-- The classes that the target declares before place i are in their arguments' types.
use Rattle.std.proofs.Common.{◌≡◌, ◌<◌, ℕ, true}
use Rattle.layout.specs.Bundles.{model}
use Rattle.overriding.proofs.Arguments.{suits_at}
use Rattle.overriding.proofs.suits.suits.Given as goal

abbrev pub invariant-loop-i : goal.invariant-loop-i
invariant-loop-i l = (k : ℕ) → k < l.i → suits_at (model l.prepared.bundle) l.m l.target k ≡ true
