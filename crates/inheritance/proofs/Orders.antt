-- Orders with parents first: the numbers themselves, an order that one class more is added to, and that a whole order leaves no cycle.
-- Assumes nothing.
use Prim.Native.Nat.{ℕ, zero, suc, ◌+◌, ◌≤◌, ◌<◌}
use native.Mathlib.Omega.{arith}
use mathlib.Core.Path.{◌≡◌, refl, sym, ap, ◌∙◌}
use mathlib.Core.Bool.{Bool, true, false, false≢true}
use mathlib.Core.Logic.{◌⊎◌, inl, inr}
use mathlib.Core.List.{List, [], ◌∷◌, ◌++◌, Memᴰ}
use lib.Dec.{eqb, ltb}
use lib.ListN.{length, get_or, set, replicate, length-set, length-append, get_or-append, get_or-replicate}
use lib.Seq.{get_or-set_same, get_or-set_other, get_or-append_seam}
use borrow.Author.Tests.{ltb-true, ltb-false, lt-ltb, eqb-true, eqb-false}
use Rattle.rules.specs.Bounded.{upto, every}
use Rattle.rules.specs.Layout.{max_classes, rises_above, rises}
use Rattle.rules.specs.Inheritance.{Reaches, itself, parent, Inherits, inherits}
use Rattle.rules.proofs.Lists.{test, agree, and_left, and_right, every_mem, every_place, every_places, keep_fewer, keep_upto_length, below_upto}
use Rattle.rules.proofs.Decides.{refuted}
use Rattle.rules.proofs.Inheritance.{reaches_compose, inherits_decides}
use Rattle.std.specs.Prelude.{Option, Some, None, is_some, MatchOption}
use Rattle.inheritance.specs.Order.{is_placed, lower, in_number_order, Acyclic, Placing, Whole}

-- a list that rises strictly has nothing above its last number
above_first : (x : ℕ) (ys : List ℕ) → rises_above x ys ≡ true → (i : ℕ) → i < length ys → x < get_or ys i 0
unfolding rises_above
above_first x [] e i l = absurd (omega arith)
above_first x (y ∷ ys) e zero l = ltb-true x y (and_left (ltb x y) (rises_above y ys) e)
above_first x (y ∷ ys) e (suc i) l =
    let step = ltb-true x y (and_left (ltb x y) (rises_above y ys) e) in
    omega (arith, above_first y ys (and_right (ltb x y) (rises_above y ys) e) i (omega arith))

above_ordered : (x : ℕ) (ys : List ℕ) → rises_above x ys ≡ true → (i j : ℕ) → i < j → j < suc (length ys) → get_or (x ∷ ys) i 0 < get_or (x ∷ ys) j 0
unfolding rises_above
above_ordered x ys e i zero l h = absurd (omega arith)
above_ordered x ys e zero (suc j) l h = above_first x ys e j (omega arith)
above_ordered x [] e (suc i) (suc j) l h = absurd (omega arith)
above_ordered x (y ∷ ys) e (suc i) (suc j) l h = above_ordered y ys (and_right (ltb x y) (rises_above y ys) e) i j (omega arith) (omega arith)

rises_ordered : (xs : List ℕ) → rises xs ≡ true → (i j : ℕ) → i < j → j < length xs → get_or xs i 0 < get_or xs j 0
unfolding rises
rises_ordered [] e i j l h = absurd (omega arith)
rises_ordered (x ∷ xs) e i j l h = above_ordered x xs e i j l h

-- so its last number tells whether all are below a bound
pub last_tells : (c k : ℕ) (xs : List ℕ) → rises xs ≡ true → suc k ≡ length xs → every (λ p. ltb p c) xs ≡ ltb (get_or xs k 0) c
last_tells c k xs e l =
    agree (every (λ p. ltb p c) xs) (ltb (get_or xs k 0) c) (λ t. every_place (λ p. ltb p c) xs 0 t k (omega (arith, l)))
    (λ t. every_places (λ p. ltb p c) xs 0 (λ i h. lt-ltb (get_or xs i 0) c (below i h (ltb-true (get_or xs k 0) c t) (test (eqb i k)))))
  where
    below : (i : ℕ) → i < length xs → get_or xs k 0 < c → (eqb i k ≡ true) ⊎ (eqb i k ≡ false) → get_or xs i 0 < c
    below i h t (inl q) = rw (eqb-true i k q) t
    below i h t (inr q) = let n = eqb-false i k q in omega (arith, t, rises_ordered xs e i k (omega (arith, h, l, n)) (omega (arith, l)))

-- a parent on the way back to a class is on the cycle too
cycle_parent : {parents : ℕ → List ℕ} {d p : ℕ} → Reaches parents p d → Memᴰ p (parents d) → Inherits parents p p
cycle_parent {d = d} itself m = (d, m, itself)
cycle_parent (parent {p = q} k u) m = (q, k, reaches_compose u (parent m itself))

-- a class that is marked, and the others
pub marked_own : (placed : List Bool) (x : ℕ) → x < length placed → is_placed (set placed x true) x ≡ true
marked_own placed x h = get_or-set_same placed x true false h

pub marked_other : (placed : List Bool) (x c : ℕ) → (c ≡ x → ⊥) → is_placed (set placed x true) c ≡ is_placed placed c
marked_other placed x c d = get_or-set_other placed x c true false d

-- what was marked still is
pub marked_still : (placed : List Bool) (x c : ℕ) → x < length placed → is_placed placed c ≡ true → is_placed (set placed x true) c ≡ true
marked_still placed x c h t = go (test (eqb c x))
  where
    go : (eqb c x ≡ true) ⊎ (eqb c x ≡ false) → is_placed (set placed x true) c ≡ true
    go (inl q) = rw (eqb-true c x q) (marked_own placed x h)
    go (inr q) = marked_other placed x c (eqb-false c x q) ∙ t

module _ (parents : ℕ → List ℕ) (n : ℕ) where
  -- numbers in which parents are lower are such an order
  pub numbers_whole : (classes : List ℕ) → length classes ≡ n → in_number_order parents n ≡ true → ((i : ℕ) → i < n → get_or classes i 0 ≡ i) → Whole parents n classes
  unfolding in_number_order lower
  numbers_whole classes long e same =
      record {
        ordered = record {
          present = λ i h. let k : i < n = omega (arith, long) in rw (same i k) k;
          after = λ i h p m.
              let k : i < n = omega (arith, long) in
              let m' : Memᴰ p (parents i) = rw (same i k) at m in
              let l = ltb-true p i (every_mem (λ q. ltb q i) (parents i) (every_mem (λ c. every (λ q. ltb q c) (parents c)) (upto n) e (below_upto n i k)) m') in
              (p, l, same p (omega (arith, l)));
        };
        limit = omega (arith, long);
        all = λ c h. (c, omega (arith, long), same c h);
      }

  -- where a class of an order is on a cycle, so is one that stands before it
  pub whole_acyclic : {classes : List ℕ} → ((c : ℕ) → c < n → every (λ p. ltb p n) (parents c) ≡ true) → Whole parents n classes → Acyclic parents n
  whole_acyclic {classes} closed w c h =
      refuted (inherits parents n c c)
      (λ e. let (i, l, q) = w.all c h in descend (suc i) i c (omega arith) l q ((inherits_decides parents n closed c c h).0 e))
    where
      descend : (steps i d : ℕ) → i < steps → i < length classes → get_or classes i 0 ≡ d → Inherits parents d d → ⊥
      descend zero i d s l q v = absurd (omega arith)
      descend (suc steps) i d s l q (p, m, u) =
          let (j, k, r) = w.ordered.after i l p (rw q m) in
          descend steps j p (omega (arith, k)) (omega (arith, k)) r (cycle_parent u m)

  pub order_acyclic : {A : Type 0} (classes : A → List ℕ) → ((c : ℕ) → c < n → every (λ p. ltb p n) (parents c) ≡ true) → (r : Option A)
      → MatchOption r (Acyclic parents n → ⊥) (λ order. Whole parents n (classes order)) → is_some r ≡ true → Acyclic parents n
  order_acyclic classes closed (Some order) w e = whole_acyclic closed w
  order_acyclic classes closed None w e = absurd (false≢true e)

  -- what is said of an order beside that it is whole
  pub order_whole : {A : Type 0} (P : A → Type 0) (classes : A → List ℕ) → (r : Option A)
      → MatchOption r (Acyclic parents n → ⊥) (λ order. P order × Whole parents n (classes order)) → MatchOption r (Acyclic parents n → ⊥) (λ order. Whole parents n (classes order))
  order_whole P classes (Some order) w = w.1
  order_whole P classes None w = w

  -- nothing is placed
  pub placing_none : (placed : List Bool) → placed ≡ replicate max_classes false → n ≤ max_classes → Placing parents n [] placed
  placing_none placed f limit =
      record {
        long = ap length f;
        ordered = record { present = λ i h. absurd (omega arith); after = λ i h. absurd (omega arith) };
        listed = λ c h t. absurd (false≢true (sym (ap (λ (l : List Bool). get_or l c false) f ∙ get_or-replicate {A = Bool} max_classes c false false (omega arith)) ∙ t));
        few = omega arith;
      }

  -- with a class that is not placed there are fewer than n, and marking it makes one more
  pub count_below : {classes : List ℕ} {placed : List Bool} → Placing parents n classes placed → (x : ℕ) → x < n → is_placed placed x ≡ false → length classes < n
  count_below {classes} {placed} g x h t =
      let more = keep_fewer (is_placed placed) (λ c. true) (upto n) (λ c m e. refl) (below_upto n x h) refl t in
      omega (arith, more, g.few, keep_upto_length (λ c. true) n)

  -- one class more, whose parents are placed
  module _ {classes : List ℕ} {placed : List Bool} (g : Placing parents n classes placed) (limit : n ≤ max_classes) (x : ℕ) (h : x < n)
      (t : is_placed placed x ≡ false) (ready : (p : ℕ) → Memᴰ p (parents x) → (p < n) × (is_placed placed p ≡ true)) where
    long : x < length placed
    long = omega (arith, h, g.long)

    one_more : length (classes ++ x ∷ []) ≡ length classes + 1
    one_more = length-append classes (x ∷ [])

    before : (i : ℕ) → i < length classes → get_or (classes ++ x ∷ []) i 0 ≡ get_or classes i 0
    before i l = get_or-append classes (x ∷ []) 0 i l

    own : get_or (classes ++ x ∷ []) (length classes) 0 ≡ x
    own = get_or-append_seam classes x [] 0

    stands : (c : ℕ) → (i : ℕ) × (i < length classes) × (get_or classes i 0 ≡ c) → (i : ℕ) × (i < length classes) × (get_or (classes ++ x ∷ []) i 0 ≡ c)
    stands c (i, l, q) = (i, l, before i l ∙ q)

    pub placing_more : Placing parents n (classes ++ x ∷ []) (set placed x true)
    placing_more =
        record {
          long = length-set placed x true ∙ g.long;
          ordered = record { present = λ i l. present i (test (ltb i (length classes))) l; after = λ i l p m. after i (test (ltb i (length classes))) l p m };
          listed = λ c k e. found c k e (test (eqb c x));
          few =
              let more = keep_fewer (is_placed placed) (is_placed (set placed x true)) (upto n) (λ c m e. marked_still placed x c long e) (below_upto n x h) (marked_own placed x long) t in
              omega (arith, more, g.few, one_more);
        }
      where
        present : (i : ℕ) → (ltb i (length classes) ≡ true) ⊎ (ltb i (length classes) ≡ false) → i < length (classes ++ x ∷ []) → get_or (classes ++ x ∷ []) i 0 < n
        present i (inl q) l = rw (before i (ltb-true i (length classes) q)) (g.ordered.present i (ltb-true i (length classes) q))
        present i (inr q) l = let e : i ≡ length classes = omega (arith, ltb-false i (length classes) q, one_more) in rw (e, own) h

        after : (i : ℕ) → (ltb i (length classes) ≡ true) ⊎ (ltb i (length classes) ≡ false) → i < length (classes ++ x ∷ []) → (p : ℕ)
            → Memᴰ p (parents (get_or (classes ++ x ∷ []) i 0)) → (j : ℕ) × (j < i) × (get_or (classes ++ x ∷ []) j 0 ≡ p)
        after i (inl q) l p m =
            let less = ltb-true i (length classes) q in
            let (j, k, r) = g.ordered.after i less p (rw (before i less) at m) in
            (j, k, before j (omega (arith, k)) ∙ r)
        after i (inr q) l p m =
            let e : i ≡ length classes = omega (arith, ltb-false i (length classes) q, one_more) in
            let m' : Memᴰ p (parents x) = rw (e, own) at m in
            let (k, r) = ready p m' in
            rw e (stands p (g.listed p k r))

        found : (c : ℕ) → c < n → is_placed (set placed x true) c ≡ true → (eqb c x ≡ true) ⊎ (eqb c x ≡ false)
            → (i : ℕ) × (i < length (classes ++ x ∷ [])) × (get_or (classes ++ x ∷ []) i 0 ≡ c)
        found c k e (inl q) = (length classes, omega (arith, one_more), own ∙ sym (eqb-true c x q))
        found c k e (inr q) =
            let (i, l, r) = stands c (g.listed c k (sym (marked_other placed x c (eqb-false c x q)) ∙ e)) in
            (i, omega (arith, l, one_more), r)

  -- once all are placed the order is whole
  pub placing_all : {classes : List ℕ} {placed : List Bool} → Placing parents n classes placed → ((c : ℕ) → c < n → is_placed placed c ≡ true) → Whole parents n classes
  placing_all {placed = placed} g done =
      record { ordered = g.ordered; limit = omega (arith, g.few, keep_upto_length (is_placed placed) n); all = λ c h. g.listed c h (done c h) }
