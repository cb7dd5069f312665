-- The loop's invariant: the words before w have the bits of both words.
-- Assumes nothing.
use Rattle.std.proofs.Common.{ℕ, ◌≡◌, ◌+◌, ◌<◌, length, get_or, bit_and}
use Rattle.method_sets.specs.Sets.{set_words}
use Rattle.method_sets.proofs.sets.both.Given as goal

abbrev pub invariant-loop-w : goal.invariant-loop-w
invariant-loop-w l = record {
  long : length l.part ≡ set_words;
  words : (k : ℕ) → k < l.w → get_or l.part k 0 ≡ bit_and (get_or l.set k 0) (get_or l.table (l.at + k) 0);
}
