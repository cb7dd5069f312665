-- The loop's invariant: the word's bits are the positions from i on of the function's methods.
-- Assumes nothing.
use Rattle.rules.specs.Model.{model_of}
use Rattle.method_sets.specs.Sets.{method_of}
use Rattle.method_sets.proofs.Words.{PackedFrom}
use Rattle.method_sets.proofs.table.word_of.Given as goal

abbrev pub invariant-loop-i : goal.invariant-loop-i
invariant-loop-i l = PackedFrom (method_of (model_of l.bundle.bytes.now) l.order l.f) l.bundle.tables.methods l.start l.i l.bits
