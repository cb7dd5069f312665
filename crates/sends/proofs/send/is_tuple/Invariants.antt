-- Every place below i keeps the rule.
-- Assumes nothing.
use Rattle.std.proofs.Common.{ℕ, ◌<◌, ◌≡◌, true, get_or}
use Rattle.rules.specs.Layout.{place_rule}
use Rattle.sends.proofs.send.is_tuple.Given as goal

abbrev pub invariant-loop-i : goal.invariant-loop-i
invariant-loop-i l = (k : ℕ) → k < l.i → place_rule l.classes l.n k (get_or l.places k 0) ≡ true
