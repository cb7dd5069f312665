-- Tuples of as many numbers as the layout has places.
-- Assumes nothing.
use Prim.Native.Nat.{ℕ, ◌≤◌}
use mathlib.Core.Path.{◌≡◌, ◌∙◌}
use mathlib.Core.List.{List, ◌++◌}
use lib.ListN.{length, take, replicate}
use lib.Seq.{take-take, take-append_seam}
use Rattle.rules.specs.Layout.{places, padded}

pub padded_read : (xs : List ℕ) → length xs ≤ places → take (length xs) (padded xs) ≡ xs
unfolding padded
padded_read xs h = take-take (length xs) places (xs ++ replicate places 0) h ∙ take-append_seam xs (replicate places 0)
