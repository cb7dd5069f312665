-- Signatures that an earlier one implies.
-- Assumes nothing.
use Rattle.std.specs.Prelude.{ℕ, Bool}
use Rattle.rules.specs.Bounded.{upto, any}
use Rattle.rules.specs.Model.{Model}
use Rattle.rules.specs.Alike.{implies}

-- an earlier signature implies signature s
unfoldable pub implied : Model → ℕ → Bool
implied M s = any (λ e. implies M e s) (upto s)
