-- Every parent below i keeps the rule.
use Rattle.std.proofs.Common.{ℕ, ◌<◌, ◌≡◌, true}
use Rattle.record_rules.specs.Tests.{from, parent_rule}
use Rattle.record_rules.proofs.class.parents_break.Given as goal

abbrev pub invariant-loop-i : goal.invariant-loop-i
invariant-loop-i l = (k : ℕ) → k < l.i → parent_rule (from l.bytes l.at) l.c k ≡ true
