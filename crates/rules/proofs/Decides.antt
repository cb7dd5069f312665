-- A test that holds exactly when another passes at every number below a bound: what a loop over those numbers shows of the test.
-- Assumes nothing.
use Prim.Native.Nat.{ℕ, zero, suc, ◌<◌}
use native.Mathlib.Nat.{not-suc-le-zero, le_of_suc-le-suc}
use native.Mathlib.Omega.{arith}
use mathlib.Core.Path.{◌≡◌, refl, sym, ap, ◌∙◌}
use mathlib.Core.Bool.{Bool, true, false, not, ◌&&◌, true≢false, not-not, and-false, and_assoc}
use mathlib.Core.List.{List, [], ◌∷◌}
use lib.Dec.{eqb, ltb, leb, leb-suc-suc}
use lib.ListN.{length, get_or}
use borrow.Author.Tests.{le-leb, lt-leb, lt-ltb, le-ltb, ltb-true, ltb-false, not-true, not-false}
use Rattle.rules.specs.Bounded.{upto, every}
use Rattle.rules.specs.Layout.{tuple_rule, place_rule}
use Rattle.rules.proofs.Lists.{and_left, and_right, and_both, every_from, every_mem, upto_below, below_upto}

-- what cannot be true is false
pub refuted : (t : Bool) → (t ≡ true → ⊥) → t ≡ false
refuted true h = absurd (h refl)
refuted false h = refl

pub leb_not_ltb : (m n : ℕ) → leb m n ≡ not (ltb n m)
leb_not_ltb m n = go (ltb n m) refl
  where
    go : (t : Bool) → ltb n m ≡ t → leb m n ≡ not (ltb n m)
    go true e = rw e (lt-leb m n (ltb-true n m e))
    go false e = rw e (le-leb m n (ltb-false n m e))

pub record Decides (t : Bool) (p : ℕ → Bool) (n : ℕ) : Type 0 where
  pub holds : ((i : ℕ) → i < n → p i ≡ true) → t ≡ true
  pub breaks : (i : ℕ) → i < n → p i ≡ false → t ≡ false

-- A loop asks of each number whether it breaks the rule: it does, and the rule is broken; it does not, and the number passes; none does.
pub broken : {t : Bool} {p : ℕ → Bool} {n : ℕ} → Decides t p n → (i : ℕ) → i < n → {r : Bool} → r ≡ not (p i) → r ≡ true → true ≡ not t
broken {t} {p} j i l q r = sym (ap not (j.breaks i l (not-true (p i) (sym q ∙ r))))

pub passed : {r x : Bool} → r ≡ not x → r ≡ false → x ≡ true
passed {r} {x} q e = not-false x (sym q ∙ e)

-- what the code asks, whether a rule is broken, turned to the rule
pub turned : (r : Bool) {x : Bool} → r ≡ not x → x ≡ not r
turned r {x} q = sym (ap not q ∙ not-not x)

pub kept : {t : Bool} {p : ℕ → Bool} {n : ℕ} → Decides t p n → ((i : ℕ) → i < n → p i ≡ true) → false ≡ not t
kept j h = sym (ap not (j.holds h))

-- a test that holds judges by itself no number
pub decides_none : (p : ℕ → Bool) → Decides true p 0
decides_none p = record { holds = λ h. refl; breaks = λ i l e. absurd (not-suc-le-zero l) }

-- one number, and the numbers after it
pub decides_next : (p : ℕ → Bool) (s t : Bool) (n : ℕ) → s ≡ p 0 → Decides t (λ i. p (suc i)) n → Decides (s && t) p (suc n)
decides_next p s t n q j =
    record {
      holds = λ h. and_both s t (q ∙ h 0 (omega arith)) (j.holds (λ i l. h (suc i) (omega arith)));
      breaks = later;
    }
  where
    later : (i : ℕ) → i < suc n → p i ≡ false → (s && t) ≡ false
    later zero l e = ap (λ (x : Bool). x && t) (q ∙ e)
    later (suc i) l e = ap (λ (x : Bool). s && x) (j.breaks i (le_of_suc-le-suc l) e) ∙ and-false s

-- the same numbers by a test that agrees
pub decides_agree : {t : Bool} (p q : ℕ → Bool) (n : ℕ) → ((i : ℕ) → i < n → p i ≡ q i) → Decides t p n → Decides t q n
decides_agree p q n h j =
    record { holds = λ all. j.holds (λ i l. h i l ∙ all i l); breaks = λ i l e. j.breaks i l (h i l ∙ e) }

pub decides_both : {s t : Bool} (p q : ℕ → Bool) (n : ℕ) → Decides s p n → Decides t q n → Decides (s && t) (λ i. p i && q i) n
decides_both {s} {t} p q n j k =
    record {
      holds = λ h. and_both s t (j.holds (λ i l. and_left (p i) (q i) (h i l))) (k.holds (λ i l. and_right (p i) (q i) (h i l)));
      breaks = λ i l e. either i l (p i) refl e;
    }
  where
    either : (i : ℕ) → i < n → (x : Bool) → p i ≡ x → (p i && q i) ≡ false → (s && t) ≡ false
    either i l true a e = ap (λ (z : Bool). s && z) (k.breaks i l (rw a at e)) ∙ and-false s
    either i l false a e = ap (λ (z : Bool). z && t) (j.breaks i l a)

pub every_upto : (p : ℕ → Bool) (n : ℕ) → Decides (every p (upto n)) p n
every_upto p n =
    record {
      holds = λ h. every_from p (upto n) (λ k m. h k (upto_below n m));
      breaks = λ i l e. refuted (every p (upto n)) (λ t. true≢false (sym (every_mem p (upto n) t (below_upto n i l)) ∙ e));
    }

pub every_decides : (p : ℕ → Bool) (xs : List ℕ) → Decides (every p xs) (λ i. p (get_or xs i 0)) (length xs)
unfolding every
every_decides p [] = decides_none (λ i. p (get_or [] i 0))
every_decides p (x ∷ xs) = decides_next (λ i. p (get_or (x ∷ xs) i 0)) (p x) (every p xs) (length xs) refl (every_decides p xs)

-- a tuple keeps its rule exactly when each of its places does
pub tuple_decides : (classes n : ℕ) (xs : List ℕ) → Decides (tuple_rule classes n xs) (λ i. place_rule classes n i (get_or xs i 0)) (length xs)
unfolding tuple_rule place_rule every
tuple_decides classes zero xs =
    decides_agree (λ i. eqb (get_or xs i 0) 0) (λ i. place_rule classes 0 i (get_or xs i 0)) (length xs) (λ i l. rw (le-ltb i 0 (omega arith)))
    (every_decides (λ c. eqb c 0) xs)
tuple_decides classes (suc n) [] = decides_none (λ i. place_rule classes (suc n) i 0)
tuple_decides classes (suc n) (x ∷ xs) =
    rw and_assoc
    (decides_next (λ i. place_rule classes (suc n) i (get_or (x ∷ xs) i 0)) (ltb x classes) (tuple_rule classes n xs) (length xs)
    (rw (lt-ltb 0 (suc n) (omega arith)))
    (decides_agree (λ i. place_rule classes n i (get_or xs i 0)) (λ i. place_rule classes (suc n) (suc i) (get_or xs i 0)) (length xs)
    (λ i l. rw (leb-suc-suc (suc i) n)) (tuple_decides classes n xs)))
