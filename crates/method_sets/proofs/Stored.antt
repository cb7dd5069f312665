-- A list of zeros, and elements that a loop stores one after another.
-- Assumes nothing.
use Prim.Native.Nat.{ℕ, zero, suc, ◌+◌, ◌<◌}
use native.Mathlib.Decide.{ℕ_discrete}
use native.Mathlib.Omega.{arith}
use mathlib.Core.Path.{◌≡◌, refl}
use mathlib.Core.List.{List, [], ◌∷◌, ◌++◌}
use lib.ListN.{length, get_or, set, replicate, get_or-append}
use lib.Seq.{get_or-set_same, get_or-set_other, get_or-append_seam}

pub zeros : (n i : ℕ) → ◌≡◌ {A = ℕ} (get_or (replicate n 0) i 0) 0
zeros zero i = refl
zeros (suc n) zero = refl
zeros (suc n) (suc i) = zeros n i

-- what holds of the first n elements, and of one that is stored after them, holds of the first n + 1
pub stored_more : (P : ℕ → ℕ → Type 0) (l : List ℕ) (n x : ℕ) → n < length l → ((i : ℕ) → i < n → P i (get_or l i 0)) → P n x
    → (i : ℕ) → i < n + 1 → P i (get_or (set l n x) i 0)
stored_more P l n x room low new i h = go (ℕ_discrete i n)
  where
    go : Dec (i ≡ n) → P i (get_or (set l n x) i 0)
    go (yes e) = rw (e, get_or-set_same l n x 0 room) new
    go (no d) = rw (get_or-set_other l n i x 0 d) (low i (omega arith))

-- and of one that is pushed
pub pushed_more : (P : ℕ → ℕ → Type 0) (l : List ℕ) (n x : ℕ) → length l ≡ n → ((i : ℕ) → i < n → P i (get_or l i 0)) → P n x
    → (i : ℕ) → i < n + 1 → P i (get_or (l ++ (x ∷ [])) i 0)
pushed_more P l n x long low new i h = go (ℕ_discrete i n)
  where
    go : Dec (i ≡ n) → P i (get_or (l ++ (x ∷ [])) i 0)
    go (yes e) = rw (e, ← long, get_or-append_seam l x [] 0) (rw long new)
    go (no d) =
        let low_i : i < length l = omega arith in
        rw (get_or-append l (x ∷ []) 0 i low_i) (low i (omega arith))
