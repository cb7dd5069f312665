-- The index is of the same bundle.
-- Assumes nothing.
use Rattle.coverage.proofs.signature.broken_signature.Goals as goal

pub returns : goal.returns
returns c = rw c.new.ensures at c.broken_of.ensures
