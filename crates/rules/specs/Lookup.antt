-- Lookup (M 5): which method a send finds.
-- Assumes nothing.
use Rattle.std.specs.Prelude.{ℕ, Bool, not, ◌&&◌, ◌||◌, List, [], ◌∷◌, reverse, eqb, length, get_or, take}
use Rattle.std.proofs.Math.Option.{Option, none, some}
use Rattle.rules.specs.Bounded.{upto, every, keep, first, matching}
use Rattle.rules.specs.Model.{Model}
use Rattle.rules.specs.Subclass.{under}

-- One method; none applicable (10); or applicable ones none of which is found (11), of which two are named.
pub data Found : Type 0 where
  found : ℕ → Found
  missing : Found
  ambiguous : ℕ → ℕ → Found

-- the method applies to the tuple: each class is under the specialiser at its place (M 5.1)
unfoldable pub applies : Model → List ℕ → ℕ → Bool
applies M args m = under M args (M.specialisers m)

-- the applicable methods of a function, rising
unfoldable pub applicable : Model → ℕ → List ℕ → List ℕ
applicable M f args = keep (λ m. eqb (M.function m) f && applies M args m) (upto M.methods)

-- Once the first places of a tuple are filled, a method of the function is left when its specialisers there are above their classes.
unfoldable pub left : Model → ℕ → List ℕ → ℕ → Bool
left M f filled m = eqb (M.function m) f && under M filled (take (length filled) (M.specialisers m))

-- the methods left, rising
unfoldable pub applicable_so_far : Model → ℕ → List ℕ → List ℕ
applicable_so_far M f filled = keep (left M f filled) (upto M.methods)

-- m is at least as specific as n: place by place its specialiser is under that of n (M 5.2)
unfoldable pub as_specific : Model → ℕ → ℕ → Bool
as_specific M m n = under M (M.specialisers m) (M.specialisers n)

-- m is at least as specific as the rest of the list (M 5.3)
unfoldable pub leads : Model → List ℕ → ℕ → Bool
leads M ms m = every (λ n. eqb n m || as_specific M m n) ms

-- none of the rest of the list is at least as specific as m (M 5.5)
unfoldable pub unbeaten : Model → List ℕ → ℕ → Bool
unbeaten M ms m = every (λ n. eqb n m || not (as_specific M n m)) ms

-- the rivals of a list, from its end: those which none of the rest equals or beats (M 5.5)
unfoldable pub rivals : Model → List ℕ → List ℕ
rivals M ms = keep (unbeaten M ms) (reverse ms)

-- The leader, or else the first two of the rivals. Of a list that rises these are the highest, the higher one first.
unfoldable pub leader_or : Option ℕ → List ℕ → Found
leader_or (some m) rs = found m
leader_or none rs = ambiguous (get_or rs 0 0) (get_or rs 1 0)

-- What lookup makes of the applicable methods: without any it fails by 10, with a leader it finds that one, else it fails by 11 (M 5.3 to 5.5).
unfoldable pub select : Model → List ℕ → Found
select M [] = missing
select M (m ∷ ms) = leader_or (first (leads M (m ∷ ms)) (m ∷ ms)) (rivals M (m ∷ ms))

unfoldable pub lookup : Model → ℕ → List ℕ → Found
lookup M f args = select M (applicable M f args)

-- the method is written for exactly these classes: place by place its specialiser is the same (M 5.7)
unfoldable pub exact : Model → List ℕ → ℕ → Bool
exact M args m = matching eqb args (M.specialisers m)
