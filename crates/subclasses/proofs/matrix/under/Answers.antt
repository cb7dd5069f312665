-- The bit asked is the entry of the matrix.
use Rattle.std.proofs.Common.{refl}
use Rattle.rules.specs.Bits.{bit_at}
use Rattle.rules.specs.Scratch.{entry_at}
use Rattle.subclasses.proofs.matrix.under.Goals as goal

pub returns : goal.returns
unfolding entry_at bit_at
returns c = refl
