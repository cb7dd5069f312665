-- The loop's invariant: the word's bits are the positions from i on of the classes above class k.
-- Assumes nothing.
use Rattle.std.proofs.Common.{length}
use Rattle.method_sets.specs.Sets.{column_above}
use Rattle.method_sets.proofs.Words.{PackedFrom}
use Rattle.method_sets.proofs.table.word_above.Given as goal

abbrev pub invariant-loop-i : goal.invariant-loop-i
invariant-loop-i l = PackedFrom (column_above l.scratch l.column l.k) (length l.column) l.start l.i l.bits
