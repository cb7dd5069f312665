-- The places of a send.
-- Assumes nothing.
use Prim.Native.Nat.{ℕ, ◌≤◌}
use native.Mathlib.Omega.{arith}
use mathlib.Core.Path.{◌≡◌, refl}
use mathlib.Core.List.{List, [], ◌∷◌}
use lib.ListN.{length, get_or}
use Rattle.rules.specs.Layout.{places, padded}

-- the places of a tuple, each by its number
pub padded_places : (xs : List ℕ) → length xs ≤ places → get_or xs 0 0 ∷ get_or xs 1 0 ∷ get_or xs 2 0 ∷ [] ≡ padded xs
unfolding padded
padded_places [] h = refl
padded_places (a ∷ []) h = refl
padded_places (a ∷ b ∷ []) h = refl
padded_places (a ∷ b ∷ c ∷ []) h = refl
padded_places (a ∷ b ∷ c ∷ d ∷ xs) h = absurd (omega (arith, h))
