-- The loop's invariant: the first c numbers are written.
-- Assumes nothing.
use Rattle.std.proofs.Common.{◌≡◌, ◌<◌, ℕ, length, get_or}
use Rattle.inheritance.proofs.order.numbers.Given as goal

abbrev pub invariant-loop-c : goal.invariant-loop-c
invariant-loop-c l = record {
  long : length l.order.items ≡ l.c;
  same : (k : ℕ) → k < l.c → get_or l.order.items k 0 ≡ k;
}
