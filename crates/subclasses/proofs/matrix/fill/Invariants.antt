-- The loop's invariant: the bytes of the first a rows are the matrix's, the later ones as before.
-- Assumes nothing.
use Rattle.std.proofs.Common.{◌≡◌, ◌*◌, length}
use Rattle.rules.specs.Model.{model_of}
use Rattle.rules.specs.Scratch.{matrix_byte}
use Rattle.rules.specs.Calls.{overwrite}
use Rattle.subclasses.proofs.matrix.fill.Given as goal

abbrev pub invariant-loop-a : goal.invariant-loop-a
invariant-loop-a l = record {
  long : length l.scratch ≡ length l.fn.scratch;
  written : l.scratch ≡ overwrite (16 * l.a) (matrix_byte (model_of l.bundle.bytes.now)) l.fn.scratch;
}
