-- Laws of `specs/Tests`: a rule on a list or a part of the bundle holds exactly when its test passes at every place.
-- Assumes nothing.
use Prim.Native.Nat.{ℕ, zero, suc, ◌+◌, ◌*◌, ◌-◌, ◌<◌, ◌≤◌}
use native.Mathlib.Omega.{arith}
use mathlib.Core.Path.{◌≡◌, refl, sym, subst, ◌∙◌}
use mathlib.Core.Bool.{Bool, true, false, ◌||◌}
use mathlib.Core.List.{List, [], ◌∷◌}
use lib.Dec.{eqb, ltb}
use lib.ListN.{length, get_or}
use borrow.Author.Tests.{ltb-true, lt-ltb, le-ltb, eqb-true, eq-eqb, ne_eqb}
use Rattle.rules.specs.Bytes.{part}
use Rattle.rules.specs.Layout.{tuple_rule, place_rule, rises_above, rises, every_pair, instruction_rule}
use Rattle.rules.proofs.Lists.{agree}
use Rattle.rules.proofs.Places.{part_at, part_length}
use Rattle.rules.proofs.Decides.{Decides, decides_none, decides_next, decides_agree, decides_both, every_decides, tuple_decides}
use Rattle.record_rules.specs.Tests.{from, parents_rule, parent_rule, pair_rule, entry_of, Limits, by_limits}

-- a list whose elements are each above the one before
above_decides : (x : ℕ) (xs : List ℕ) → Decides (rises_above x xs) (λ i. ltb (get_or (x ∷ xs) i 0) (get_or xs i 0)) (length xs)
unfolding rises_above
above_decides x [] = decides_none (λ i. ltb (get_or (x ∷ []) i 0) (get_or [] i 0))
above_decides x (y ∷ ys) =
    decides_next (λ i. ltb (get_or (x ∷ y ∷ ys) i 0) (get_or (y ∷ ys) i 0)) (ltb x y) (rises_above y ys) (length ys) refl (above_decides y ys)

rises_decides : (xs : List ℕ) → Decides (rises xs) (λ i. eqb i 0 || ltb (get_or xs (i - 1) 0) (get_or xs i 0)) (length xs)
unfolding rises
rises_decides [] = decides_none (λ i. eqb i 0 || ltb (get_or [] (i - 1) 0) (get_or [] i 0))
rises_decides (x ∷ xs) =
    decides_next (λ i. eqb i 0 || ltb (get_or (x ∷ xs) (i - 1) 0) (get_or (x ∷ xs) i 0)) true (rises_above x xs) (length xs) refl
    (decides_agree (λ i. ltb (get_or (x ∷ xs) i 0) (get_or xs i 0))
    (λ i. eqb (suc i) 0 || ltb (get_or (x ∷ xs) (suc i - 1) 0) (get_or xs i 0)) (length xs) next (above_decides x xs))
  where
    next : (i : ℕ) → i < length xs
        → ltb (get_or (x ∷ xs) i 0) (get_or xs i 0) ≡ (eqb (suc i) 0 || ltb (get_or (x ∷ xs) (suc i - 1) 0) (get_or xs i 0))
    next i l =
        let before : suc i - 1 ≡ i = omega arith in
        rw (ne_eqb (suc i) 0 (λ q. omega arith), before)

pairs_decides : (p : ℕ → ℕ → Bool) (k : ℕ) (xs : List ℕ) → length xs ≡ 2 * k → Decides (every_pair p xs) (pair_rule (λ i. get_or xs i 0) p) k
unfolding every_pair
pairs_decides p zero [] e = decides_none (pair_rule (λ i. get_or [] i 0) p)
pairs_decides p zero (x ∷ xs) e = absurd (omega (arith, e))
pairs_decides p (suc k) [] e = absurd (omega (arith, e))
pairs_decides p (suc k) (x ∷ []) e = absurd (omega (arith, e))
pairs_decides p (suc k) (x ∷ y ∷ rest) e =
    decides_next (pair_rule (λ i. get_or (x ∷ y ∷ rest) i 0) p) (p x y) (every_pair p rest) k refl
    (decides_agree (pair_rule (λ i. get_or rest i 0) p) (λ i. pair_rule (λ i. get_or (x ∷ y ∷ rest) i 0) p (suc i)) k next
    (pairs_decides p k rest (omega (arith, e))))
  where
    next : (i : ℕ) → i < k → pair_rule (λ i. get_or rest i 0) p i ≡ pair_rule (λ i. get_or (x ∷ y ∷ rest) i 0) p (suc i)
    next i l =
        let even : 2 * suc i ≡ suc (suc (2 * i)) = omega arith in
        let odd : 2 * suc i + 1 ≡ suc (suc (2 * i + 1)) = omega arith in
        rw (odd, even)

module _ (b : List ℕ) (at : ℕ) where
  pub parents_part : (c n : ℕ) → at + n ≤ length b → Decides (parents_rule c (part b at n)) (parent_rule (from b at) c) n
  unfolding parent_rule
  parents_part c n h =
      let xs = part b at n in
      decides_agree (parent_rule (λ i. get_or xs i 0) c) (parent_rule (from b at) c) n
      (λ i l. rw (part_at b at n i l, part_at b at n (i - 1) (omega arith)))
      (subst (Decides (parents_rule c xs) (parent_rule (λ i. get_or xs i 0) c)) (part_length b at n h)
      (decides_both (λ i. ltb (get_or xs i 0) c) (λ i. eqb i 0 || ltb (get_or xs (i - 1) 0) (get_or xs i 0)) (length xs)
      (every_decides (λ p. ltb p c) xs) (rises_decides xs)))

  pub tuple_part : (classes k n : ℕ) → at + n ≤ length b → Decides (tuple_rule classes k (part b at n)) (λ i. place_rule classes k i (from b at i)) n
  tuple_part classes k n h =
      let xs = part b at n in
      decides_agree (λ i. place_rule classes k i (get_or xs i 0)) (λ i. place_rule classes k i (from b at i)) n (λ i l. rw (part_at b at n i l))
      (subst (Decides (tuple_rule classes k xs) (λ i. place_rule classes k i (get_or xs i 0))) (part_length b at n h) (tuple_decides classes k xs))

  pub pairs_part : (p : ℕ → ℕ → Bool) (k : ℕ) → at + 2 * k ≤ length b → Decides (every_pair p (part b at (2 * k))) (pair_rule (from b at) p) k
  pairs_part p k h =
      let xs = part b at (2 * k) in
      decides_agree (pair_rule (λ i. get_or xs i 0) p) (pair_rule (from b at) p) k
      (λ i l. rw (part_at b at (2 * k) (2 * i) (omega arith), part_at b at (2 * k) (2 * i + 1) (omega arith)))
      (pairs_decides p k xs (part_length b at (2 * k) h))

-- an instruction keeps the rule exactly when its operand is below the limit of its operation
pub limit_decides : (limits : List ℕ) → Limits limits → (operation operand : ℕ) → by_limits limits operation operand ≡ ltb operand (get_or limits (entry_of operation) 0)
unfolding instruction_rule entry_of
limit_decides limits l zero operand = refl
limit_decides limits l (suc zero) operand = refl
limit_decides limits l (suc (suc zero)) operand = refl
limit_decides limits l (suc (suc (suc zero))) operand =
    rw l.resends
    (agree (eqb operand 0) (ltb operand 1) (λ e. lt-ltb operand 1 (omega (arith, eqb-true operand 0 e))) (λ e. eq-eqb operand 0 (omega (arith, ltb-true operand 1 e))))
limit_decides limits l (suc (suc (suc (suc n)))) operand =
    rw (le-ltb (suc (suc (suc (suc n)))) 4 (omega arith), l.others) (sym (le-ltb operand 0 (omega arith)))

-- an operation that is none of the four has no lawful operand,
pub unknown_breaks : (limits : List ℕ) → Limits limits → (operation operand : ℕ) → 4 ≤ operation → by_limits limits operation operand ≡ false
unfolding entry_of
unknown_breaks limits l operation operand h = limit_decides limits l operation operand ∙ rw (le-ltb operation 4 h, l.others) (le-ltb operand 0 (omega arith))

-- and one of the four has its own limit
pub known_decides : (limits : List ℕ) → Limits limits → (operation operand : ℕ) → operation < 4 → by_limits limits operation operand ≡ ltb operand (get_or limits operation 0)
unfolding entry_of
known_decides limits l operation operand h = limit_decides limits l operation operand ∙ rw (lt-ltb operation 4 h) refl
