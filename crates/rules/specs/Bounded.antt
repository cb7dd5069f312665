-- Tests, searches and sums over lists and over the numbers below a bound: the vocabulary of every rule.
-- Assumes nothing.
use Rattle.std.specs.Prelude.{ℕ, zero, suc, ◌+◌, Bool, true, false, cond, ◌&&◌, ◌||◌, List, [], ◌∷◌, ◌++◌}
use Rattle.std.proofs.Math.Option.{Option, none, some}

-- the numbers below n, rising
unfoldable pub upto : ℕ → List ℕ
upto zero = []
upto (suc n) = upto n ++ (n ∷ [])

-- the sum of f over the numbers below n
unfoldable pub sum : (ℕ → ℕ) → ℕ → ℕ
sum f zero = 0
sum f (suc n) = sum f n + f n

module _ {A : Type 0} where
  -- the test passes at every element
  unfoldable pub every : (A → Bool) → List A → Bool
  every p [] = true
  every p (x ∷ xs) = p x && every p xs

  -- the test passes at some element
  unfoldable pub any : (A → Bool) → List A → Bool
  any p [] = false
  any p (x ∷ xs) = p x || any p xs

  -- the elements at which the test passes, in their order
  unfoldable pub keep : (A → Bool) → List A → List A
  keep p [] = []
  keep p (x ∷ xs) = let rest = keep p xs in cond (p x) (x ∷ rest) rest

  -- the first element at which the test passes
  unfoldable pub first : (A → Bool) → List A → Option A
  first p [] = none
  first p (x ∷ xs) = let rest = first p xs in cond (p x) (some x) rest

  -- the test passes at each two elements of one place, and the lists are equally long
  unfoldable pub matching : {B : Type 0} → (A → B → Bool) → List A → List B → Bool
  matching p [] [] = true
  matching p [] (y ∷ ys) = false
  matching p (x ∷ xs) [] = false
  matching p (x ∷ xs) (y ∷ ys) = p x y && matching p xs ys
