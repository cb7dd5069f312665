-- What a search of the code finds, as the rules say it.
-- Assumes nothing.
use Rattle.std.specs.Prelude.{Option, Some, None}
use Rattle.std.proofs.Math.Option as math

abbrev pub found : {A : Type 0} → Option A → math.Option A
found (Some x) = math.some x
found None = math.none
