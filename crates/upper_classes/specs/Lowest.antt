-- The lowest concrete class under a class.
-- Assumes nothing.
use Rattle.std.specs.Prelude.{ℕ}
use Rattle.std.specs.Prelude as std
use Rattle.std.proofs.Math.Option.{Option, none, some}
use Rattle.rules.specs.Bounded.{upto, first}
use Rattle.rules.specs.Model.{Model}
use Rattle.rules.specs.Coverage.{candidate_class}

-- an option of the rules as one of the code
abbrev pub option_of : Option ℕ → std.Option ℕ
option_of none = std.None
option_of (some k) = std.Some k

unfoldable pub lowest_under : Model → ℕ → std.Option ℕ
lowest_under M c = option_of (first (candidate_class M c) (upto M.classes))
