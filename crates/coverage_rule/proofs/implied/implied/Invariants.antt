-- The loop's invariant: no signature below e implies s.
use Rattle.std.proofs.Common.{ℕ, ◌≡◌, ◌<◌, false}
use Rattle.rules.specs.Alike.{implies}
use Rattle.layout.specs.Bundles.{model}
use Rattle.coverage_rule.proofs.implied.implied.Given as goal

abbrev pub invariant-loop-e : goal.invariant-loop-e
invariant-loop-e l = (i : ℕ) → i < l.e → implies (model l.prepared.bundle) i l.s ≡ false
