-- The verdict on the signatures alone.
-- Assumes nothing.
use Rattle.std.specs.Prelude.{ℕ}
use Rattle.std.proofs.Math.Option.{Option, none, some}
use Rattle.rules.specs.Layout.{Answer, gives}
use Rattle.rules.specs.Model.{Model}
use Rattle.rules.specs.Coverage.{broken_tuple, tuple_verdict}

-- accepted where none is broken, else the refusal of the lowest broken one with its first broken tuple
unfoldable pub signature_verdict : Model → Option ℕ → Answer (Unit {0})
signature_verdict M none = gives tt
signature_verdict M (some s) = tuple_verdict M s (broken_tuple M s)
