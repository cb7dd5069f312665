-- What 28 says of a bundle whose classes stand in any order: the class that is named inherits from itself, and no lower one does; a bundle that keeps what is asked
-- before 28 and has such a class is refused by it, and one that opens has none.
-- Assumes nothing.
use Prim.Native.Nat.{ℕ, ◌<◌}
use native.Mathlib.Omega.{arith}
use mathlib.Core.Path.{◌≡◌, refl, sym, ap, ◌∙◌}
use mathlib.Core.Bool.{Bool, true, false, not, ◌&&◌, false≢true}
use mathlib.Core.List.{List, [], ◌∷◌}
use mathlib.Core.Option.{Option, none, some}
use lib.Dec.{ltb}
use borrow.Author.Tests.{not-true, not-false}
use Rattle.rules.specs.Bounded.{every}
use Rattle.rules.specs.Inheritance.{Inherits, inherits}
use Rattle.rules.specs.Layout.{Answer, gives, refuses, require, require_each, lowest, size_rule, chain_rule, whole_rule, limit_rule, parents_of, class_count}
use Rattle.rules.specs.Cycles.{listed_rule, cycle_rule, any_order_opening}
use Rattle.rules.proofs.Lists.{and_left, and_right, lowest_some}
use Rattle.rules.proofs.Inheritance.{inherits_decides}
use Rattle.rules.proofs.Opening.{require_passed, all_hold, none_broken}

module _ {A : Type 0} where
  -- a refusal by another number comes from behind
  require_behind : (t : Bool) (own number : ℕ) (rest : Answer A) {vs : List ℕ} → require t own rest ≡ refuses number vs → (own ≡ number → ⊥) → rest ≡ refuses number vs
  unfolding require
  require_behind true own number rest e d = e
  require_behind false own number rest e d = absurd (d (cc))

  each_behind : (r : Option ℕ) (own number : ℕ) (rest : Answer A) {vs : List ℕ} → require_each r own rest ≡ refuses number vs → (own ≡ number → ⊥)
      → (r ≡ none) × (rest ≡ refuses number vs)
  unfolding require_each
  each_behind none own number rest e d = (refl, e)
  each_behind (some k) own number rest e d = absurd (d (cc))

  each_passed : (r : Option ℕ) (number : ℕ) (rest : Answer A) {x : A} → require_each r number rest ≡ gives x → (r ≡ none) × (rest ≡ gives x)
  unfolding require_each
  each_passed none number rest e = (refl, e)
  each_passed (some k) number rest e = absurd (false≢true (cc))

  -- and one by its own number names the record, where none comes from behind
  each_own : (r : Option ℕ) (number : ℕ) (rest : Answer A) {vs : List ℕ} → require_each r number rest ≡ refuses number vs → (rest ≡ refuses number vs → ⊥)
      → (k : ℕ) × (r ≡ some k) × (vs ≡ k ∷ [])
  unfolding require_each
  each_own none number rest e d = absurd (d e)
  each_own (some k) number rest e d = (k, refl, cc)

-- the parents of a class that keeps its rule are classes
pub listed_parents : (b : List ℕ) (c : ℕ) → listed_rule b c ≡ true → every (λ p. ltb p (class_count b)) (parents_of b c) ≡ true
unfolding listed_rule
listed_parents b c rule = search (and_left, and_right)

module _ (b : List ℕ) (kept : (c : ℕ) → c < class_count b → listed_rule b c ≡ true) where
  cycle_decides : (c : ℕ) → c < class_count b → (cycle_rule b c ≡ false → Inherits (parents_of b) c c) × (Inherits (parents_of b) c c → cycle_rule b c ≡ false)
  unfolding cycle_rule
  cycle_decides c h =
      let d = inherits_decides (parents_of b) (class_count b) (λ k l. listed_parents b k (kept k l)) c c h in
      (λ e. d.0 (not-false (inherits (parents_of b) (class_count b) c c) e), λ u. ap not (d.1 u))

  -- the lowest class that breaks the rule
  cycle_lowest : {c : ℕ} → lowest (cycle_rule b) (class_count b) ≡ some c
      → (c < class_count b) × Inherits (parents_of b) c c × ((d : ℕ) → d < c → Inherits (parents_of b) d d → ⊥)
  unfolding lowest
  cycle_lowest {c} e =
      let (h, broken, before) = lowest_some (λ k. not (cycle_rule b k)) (class_count b) c e in (
        h,
        (cycle_decides c h).0 (not-true (cycle_rule b c) broken),
        λ d l u. false≢true (sym ((cycle_decides d (omega arith)).1 u) ∙ not-false (cycle_rule b d) (before d l)),
      )

-- what 28 names, where every class keeps its own rule
pub cycle_named : (b vs : List ℕ) → any_order_opening b ≡ refuses 28 vs
    → ((c : ℕ) → c < class_count b → listed_rule b c ≡ true)
    × ((c : ℕ) × (vs ≡ c ∷ []) × (c < class_count b) × Inherits (parents_of b) c c × ((d : ℕ) → d < c → Inherits (parents_of b) d d → ⊥))
unfolding any_order_opening
cycle_named b vs e =
    let e1 = require_behind _ 1 28 _ e (λ q. omega (arith, q)) in
    let e2 = require_behind _ 2 28 _ e1 (λ q. omega (arith, q)) in
    let e3 = require_behind _ 3 28 _ e2 (λ q. omega (arith, q)) in
    let (kept, e4) = each_behind _ 4 28 _ e3 (λ q. omega (arith, q)) in
    let (c, found, named) = each_own _ 28 _ e4 (λ q.
    let (n5, q5) = each_behind _ 5 28 _ q (λ d. omega (arith, d)) in
    let (n6, q6) = each_behind _ 6 28 _ q5 (λ d. omega (arith, d)) in
    let (n7, q7) = each_behind _ 7 28 _ q6 (λ d. omega (arith, d)) in
    let (n8, q8) = each_behind _ 8 28 _ q7 (λ d. omega (arith, d)) in
    let (n9, q9) = each_behind _ 9 28 _ q8 (λ d. omega (arith, d)) in
    false≢true (cc)) in
    let all = all_hold (listed_rule b) (class_count b) kept in
    let (h, own, lower) = cycle_lowest b all found in
    (all, (c, named, h, own, lower))

-- a bundle that opens has no cycle
pub opened_acyclic : (b counts : List ℕ) → any_order_opening b ≡ gives counts → (c : ℕ) → c < class_count b → Inherits (parents_of b) c c → ⊥
unfolding any_order_opening
opened_acyclic b counts e c h u =
    let (s1, e1) = require_passed _ 1 _ e in
    let (s2, e2) = require_passed _ 2 _ e1 in
    let (s3, e3) = require_passed _ 3 _ e2 in
    let (s4, e4) = each_passed _ 4 _ e3 in
    let (s28, e28) = each_passed _ 28 _ e4 in
    false≢true (sym ((cycle_decides b (all_hold (listed_rule b) (class_count b) s4) c h).1 u) ∙ all_hold (cycle_rule b) (class_count b) s28 c h)

-- whatever breaks a later rule, a cycle in classes that keep their own rules is named
pub cycle_refused : (b : List ℕ) → size_rule b ≡ true → (chain_rule b && whole_rule b) ≡ true → limit_rule b ≡ true
    → ((c : ℕ) → c < class_count b → listed_rule b c ≡ true) → (c : ℕ) → c < class_count b → Inherits (parents_of b) c c
    → (d : ℕ) × (any_order_opening b ≡ refuses 28 (d ∷ []))
unfolding any_order_opening require require_each
cycle_refused b size directory limit kept c h u = go (lowest (cycle_rule b) (class_count b)) refl
  where
    go : (r : Option ℕ) → lowest (cycle_rule b) (class_count b) ≡ r → (d : ℕ) × (any_order_opening b ≡ refuses 28 (d ∷ []))
    go none e = absurd (false≢true (sym ((cycle_decides b kept c h).1 u) ∙ all_hold (cycle_rule b) (class_count b) e c h))
    go (some d) e = (d, rw (size, directory, limit, none_broken (listed_rule b) (class_count b) kept, e))
