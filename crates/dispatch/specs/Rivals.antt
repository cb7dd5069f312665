-- The rivals of a list of methods, place by place from its end.
-- Assumes nothing.
use Rattle.std.specs.Prelude.{ℕ, ◌<◌, ◌≡◌, List, ◌∷◌, reverse, get_or, take}
use Rattle.rules.specs.Bounded.{keep}
use Rattle.rules.specs.Model.{Model}
use Rattle.rules.specs.Lookup.{unbeaten}

-- the rivals of the list that stand before a place, the last first
unfoldable pub rivals_before : Model → List ℕ → ℕ → List ℕ
rivals_before M ms end = keep (unbeaten M ms) (reverse (take end ms))

-- the last of them stands at `at`, and the rest before it
pub record LastRival (M : Model) (ms : List ℕ) (end at : ℕ) : Type 0 where
  pub within : at < end
  pub last : rivals_before M ms end ≡ get_or ms at 0 ∷ rivals_before M ms at
