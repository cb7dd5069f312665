-- Warshall's closure is inheritance: on a graph of n classes whose parents are among them, the ways whose classes in between are below n are all ways.
-- Assumes nothing.
use Prim.Native.Nat.{ℕ, zero, suc, ◌<◌}
use native.Mathlib.Nat.{not-suc-le-zero, le_of_suc-le-suc, eq-or-lt_of_le}
use mathlib.Core.Path.{◌≡◌, refl, sym, subst}
use mathlib.Core.Bool.{true, ◌&&◌}
use mathlib.Core.Logic.{◌⊎◌, inl, inr}
use mathlib.Core.List.{List, Memᴰ}
use lib.Dec.{eqb, ltb}
use borrow.Author.Tests.{eqb-true, eq-eqb}
use Rattle.rules.specs.Bounded.{every}
use Rattle.rules.specs.Inheritance.{Reaches, itself, parent, Inherits, inherits}
use Rattle.rules.proofs.Lists.{agree, and_left, and_right, and_both, or_cases, or_left, or_right, any_mem, any_from}
use Rattle.rules.proofs.Inheritance.{reaches_compose, parent_present, inherits_decides}
use Rattle.inheritance.specs.Closure.{through}

module _ (parents : ℕ → List ℕ) where
  inherits_compose : {a b c : ℕ} → Inherits parents a b → Inherits parents b c → Inherits parents a c
  inherits_compose (p, m, u) (q, k, v) = (p, m, reaches_compose u (parent k v))

  through_sound : (k a b : ℕ) → through parents k a b ≡ true → Inherits parents a b
  unfolding through
  through_sound zero a b e = let (p, m, q) = any_mem (eqb b) (parents a) e in (p, m, subst (Reaches parents p) (sym (eqb-true b p q)) itself)
  through_sound (suc k) a b e = go (or_cases (through parents k a b) (through parents k a k && through parents k k b) e) (through_sound k)
    where
      go : (through parents k a b ≡ true) ⊎ ((through parents k a k && through parents k k b) ≡ true)
          → ((c d : ℕ) → through parents k c d ≡ true → Inherits parents c d) → Inherits parents a b
      go (inl q) rest = rest a b q
      go (inr q) rest =
          inherits_compose
          (rest a k (and_left (through parents k a k) (through parents k k b) q))
          (rest k b (and_right (through parents k a k) (through parents k k b) q))

  -- a way counts in every round from the first on
  parent_through : (k : ℕ) {a p : ℕ} → Memᴰ p (parents a) → through parents k a p ≡ true
  unfolding through
  parent_through zero {a} {p} m = any_from (eqb p) (parents a) m (eq-eqb p p refl)
  parent_through (suc k) {a} {p} m = or_left (through parents k a p) (through parents k a k && through parents k k p) (parent_through k m)

  -- ways join at every class that they may pass
  through_join : (k a c b : ℕ) → c < k → through parents k a c ≡ true → through parents k c b ≡ true → through parents k a b ≡ true
  unfolding through
  through_join zero a c b h e f = absurd (not-suc-le-zero h)
  through_join (suc k) a c b h e f =
      go (eq-or-lt_of_le (le_of_suc-le-suc h))
      (or_cases (through parents k a c) (through parents k a k && through parents k k c) e)
      (or_cases (through parents k c b) (through parents k c k && through parents k k b) f)
      (through_join k)
    where
      direct : through parents k a b ≡ true → through parents (suc k) a b ≡ true
      direct q = or_left (through parents k a b) (through parents k a k && through parents k k b) q

      joined : through parents k a k ≡ true → through parents k k b ≡ true → through parents (suc k) a b ≡ true
      joined q r =
          or_right (through parents k a b) (through parents k a k && through parents k k b)
          (and_both (through parents k a k) (through parents k k b) q r)

      to : (through parents k a k && through parents k k c) ≡ true → through parents k a k ≡ true
      to q = and_left (through parents k a k) (through parents k k c) q

      from : (through parents k c k && through parents k k b) ≡ true → through parents k k b ≡ true
      from r = and_right (through parents k c k) (through parents k k b) r

      go : (c ≡ k) ⊎ (c < k)
          → (through parents k a c ≡ true) ⊎ ((through parents k a k && through parents k k c) ≡ true)
          → (through parents k c b ≡ true) ⊎ ((through parents k c k && through parents k k b) ≡ true)
          → ((x y z : ℕ) → y < k → through parents k x y ≡ true → through parents k y z ≡ true → through parents k x z ≡ true)
          → through parents (suc k) a b ≡ true
      go (inl s) (inl q) (inl r) rest = joined (rw s at q) (rw s at r)
      go (inl s) (inl q) (inr r) rest = joined (rw s at q) (from r)
      go (inl s) (inr q) (inl r) rest = joined (to q) (rw s at r)
      go (inr l) (inl q) (inl r) rest = direct (rest a c b l q r)
      go (inr l) (inl q) (inr r) rest = joined (rest a c k l q (and_left (through parents k c k) (through parents k k b) r)) (from r)
      go (inr l) (inr q) (inl r) rest = joined (to q) (rest k c b l (and_right (through parents k a k) (through parents k k c) q) r)
      go s (inr q) (inr r) rest = joined (to q) (from r)

  module _ (n : ℕ) (closed : (c : ℕ) → c < n → every (λ p. ltb p n) (parents c) ≡ true) where
    through_complete : {a p b : ℕ} → a < n → Memᴰ p (parents a) → Reaches parents p b → through parents n a b ≡ true
    through_complete h m itself = parent_through n m
    through_complete {a} {p} {b} h m (parent k u) =
        let l = parent_present parents n closed h m in
        through_join n a p b l (parent_through n m) (through_complete l k u)

    pub through_inherits : (a b : ℕ) → a < n → through parents n a b ≡ inherits parents n a b
    through_inherits a b h =
        let d = inherits_decides parents n closed a b h in
        agree (through parents n a b) (inherits parents n a b)
        (λ e. d.1 (through_sound n a b e))
        (λ e. let (p, m, u) = d.0 e in through_complete h m u)
