-- The scratch once the matrix is written, by its entries.
-- Assumes nothing.
use Prim.Native.Nat.{ℕ, ◌≤◌}
use native.Mathlib.Omega.{arith}
use mathlib.Core.List.{List}
use lib.ListN.{length}
use Rattle.rules.specs.Layout.{max_classes}
use Rattle.rules.specs.Model.{Model}
use Rattle.rules.specs.Scratch.{scratch_bytes, matrix_byte}
use Rattle.rules.specs.Calls.{overwrite}
use Rattle.rules.proofs.Scratch.{matrix_entry}
use Rattle.rules.proofs.Overwrite.{overwrite_length}
use Rattle.layout.specs.Opened.{Opened}
use Rattle.layout.specs.declared.bundle.Bundle.{Bundle}
use Rattle.layout.proofs.Opened.{placed_of}
use Rattle.subclasses.specs.Matrix.{Filled, filled}

pub filled_whole : (M : Model) (old : List ℕ) → scratch_bytes ≤ length old → Filled M (overwrite scratch_bytes (matrix_byte M) old)
filled_whole M old h = filled (omega (arith, overwrite_length scratch_bytes (matrix_byte M) old h)) (matrix_entry M old)

-- the matrix has room for each class of an opened bundle
pub classes_fit : {bytes : List ℕ} {b : Bundle} → Opened bytes b → b.classes ≤ max_classes
classes_fit o = (placed_of o).classes_limit
