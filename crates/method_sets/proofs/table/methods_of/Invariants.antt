-- The loop's invariant: the words before w have the positions of the function's methods.
-- Assumes nothing.
use Rattle.std.proofs.Common.{ℕ, ◌≡◌, ◌*◌, ◌<◌, length, get_or}
use Rattle.rules.specs.Model.{model_of}
use Rattle.method_sets.specs.Sets.{set_words, WordOf, method_of}
use Rattle.method_sets.proofs.table.methods_of.Given as goal

abbrev pub invariant-loop-w : goal.invariant-loop-w
invariant-loop-w l = record {
  long : length l.set ≡ set_words;
  words : (v : ℕ) → v < l.w → WordOf (method_of (model_of l.bundle.bytes.now) l.order l.f) (64 * v) (get_or l.set v 0);
}
