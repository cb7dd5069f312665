-- What is written at the start of a tuple or a part.
-- Assumes nothing.
use Prim.Native.Nat.{ℕ, suc, ◌/◌, ◌%◌, ◌≤◌}
use native.Mathlib.Omega.{arith}
use mathlib.Core.Path.{◌≡◌, refl}
use mathlib.Core.List.{List, [], ◌∷◌, ◌++◌}
use lib.ListN.{length, drop, replicate}
use mir.Syntax.{w64}
use Rattle.std.specs.Int.{to_le_bytes}
use Rattle.rules.specs.Bounded.{upto}
use Rattle.rules.specs.Layout.{places, padded}
use Rattle.rules.specs.Calls.{overwrite}
use Rattle.subclasses.specs.Matrix.{word_byte}

-- the classes of a list at the first places of an empty tuple
pub padded_put : (xs : List ℕ) → length xs ≤ places → xs ++ drop (length xs) (replicate places 0) ≡ padded xs
unfolding padded
padded_put [] h = refl
padded_put (x ∷ []) h = refl
padded_put (x ∷ y ∷ []) h = refl
padded_put (x ∷ y ∷ z ∷ []) h = refl
padded_put (x ∷ y ∷ z ∷ w ∷ xs) h = let long : suc (suc (suc (suc (length xs)))) ≤ 3 = h in absurd (omega arith)

-- the bytes of a word at the start of a part
pub word_put : (x : ℕ) (old : List ℕ) → to_le_bytes w64 x ++ drop 8 old ≡ overwrite 8 (word_byte x) old
unfolding overwrite word_byte upto
word_put x old =
    let low : x % 256 ≡ x / 1 % 256 = omega arith in
    cc
