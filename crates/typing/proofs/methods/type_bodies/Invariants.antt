-- Every body before m's types.
use Rattle.std.proofs.Common.{◌≡◌, ◌<◌, ℕ}
use Rattle.layout.specs.Bundles.{model}
use Rattle.rules.specs.Types.{typed, type_body}
use Rattle.typing.proofs.methods.type_bodies.Given as goal

abbrev pub invariant-loop-m : goal.invariant-loop-m
invariant-loop-m l = (k : ℕ) → k < l.m → type_body (model l.prepared.bundle) k ≡ typed
