-- Every instruction below i keeps the rule.
use Rattle.std.proofs.Common.{ℕ, ◌<◌, ◌≡◌, true}
use Rattle.record_rules.specs.Tests.{from, pair_rule, by_limits}
use Rattle.record_rules.proofs.code.pairs_break.Given as goal

abbrev pub invariant-loop-i : goal.invariant-loop-i
invariant-loop-i l = (k : ℕ) → k < l.i → pair_rule (from l.bytes l.at) (by_limits l.limits) k ≡ true
