-- Every place below i keeps the rule.
use Rattle.std.proofs.Common.{ℕ, ◌<◌, ◌≡◌, true}
use Rattle.rules.specs.Layout.{place_rule}
use Rattle.record_rules.specs.Tests.{from}
use Rattle.record_rules.proofs.tuple.tuple_breaks.Given as goal

abbrev pub invariant-loop-i : goal.invariant-loop-i
invariant-loop-i l = (k : ℕ) → k < l.i → place_rule l.classes l.n k (from l.bytes l.at k) ≡ true
