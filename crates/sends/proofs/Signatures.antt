-- The classes of a signature of an opened bundle.
-- Assumes nothing.
use Prim.Native.Nat.{ℕ, ◌<◌}
use native.Mathlib.Omega.{arith}
use mathlib.Core.Path.{◌≡◌}
use mathlib.Core.Bool.{true}
use mathlib.Core.List.{List}
use lib.ListN.{length}
use Rattle.rules.specs.Model.{model_of, present}
use Rattle.layout.specs.Opened.{Opened}
use Rattle.layout.specs.declared.bundle.Bundle.{Bundle}
use Rattle.layout.proofs.Opened.{counts_of, wellformed_of}

module _ {b : List ℕ} {t : Bundle} (o : Opened b t) (s : ℕ) (h : s < t.signatures) where
  pub signature_present : present (model_of b) ((model_of b).sig_args s) ≡ true
  signature_present = (wellformed_of o).sig_present s (omega (arith, h, (counts_of o).signatures))

  pub signature_long : length ((model_of b).sig_args s) ≡ (model_of b).arity ((model_of b).sig_function s)
  signature_long = (wellformed_of o).sig_places s (omega (arith, h, (counts_of o).signatures))
