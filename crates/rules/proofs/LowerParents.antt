-- A bundle in which every class stands after its parents opens, or is refused, as it would with classes in any order; so every call on it would answer as it does, and
-- leave in the scratch what it leaves. One that opens is such a bundle, and has no cycle.
-- Assumes nothing.
use Prim.Native.Nat.{ℕ, ◌≤◌, ◌<◌}
use native.Mathlib.Omega.{arith}
use mathlib.Core.Path.{◌≡◌, ap, ◌∙◌}
use mathlib.Core.Bool.{true, not}
use mathlib.Core.List.{List, Memᴰ}
use lib.Dec.{ltb}
use borrow.Author.Tests.{ltb-true, lt-ltb}
use Rattle.rules.specs.Bounded.{every, upto}
use Rattle.rules.specs.Inheritance.{Reaches, itself, parent, Inherits, inherits}
use Rattle.rules.specs.Layout.{Answer, gives, opening, require_each, lowest, class_rule, parents_of, class_count}
use Rattle.rules.specs.Cycles.{listed_rule, cycle_rule, any_order_opening}
use Rattle.rules.specs.LowerParents.{lower_parents, ParentsFirst}
use Rattle.rules.specs.Model.{Model, model_of}
use Rattle.rules.specs.Calls.{on_opening, when_open, scratch_on, scratch_after}
use Rattle.rules.proofs.Decides.{refuted}
use Rattle.rules.proofs.Inheritance.{inherits_decides}
use Rattle.rules.proofs.Lists.{and_left, and_right, every_mem, every_from, first_agree, upto_below}
use Rattle.rules.proofs.Opening.{opened_rules, none_broken}

module _ (b : List ℕ) (ordered : ParentsFirst b) where
  parent_lower : {c p : ℕ} → c < class_count b → Memᴰ p (parents_of b c) → p < c
  unfolding lower_parents
  parent_lower {c} {p} h m = ltb-true p c (every_mem (λ p. ltb p c) (parents_of b c) (ordered c h) m)

  closed : (c : ℕ) → c < class_count b → every (λ p. ltb p (class_count b)) (parents_of b c) ≡ true
  closed c h =
      every_from (λ p. ltb p (class_count b)) (parents_of b c)
      (λ p m. let l = parent_lower h m in lt-ltb p (class_count b) (omega (arith, l)))

  -- steps go down
  reached_lower : {a c : ℕ} → a < class_count b → Reaches (parents_of b) a c → c ≤ a
  reached_lower h itself = omega arith
  reached_lower {a} {c} h (parent {p = p} m u) =
      let l = parent_lower h m in
      let k : c ≤ p = reached_lower (omega (arith, l)) u in
      omega (arith, l)

  no_way_back : (c : ℕ) → c < class_count b → Inherits (parents_of b) c c → ⊥
  no_way_back c h (p, m, u) = let l = parent_lower h m in let k = reached_lower (omega (arith, l)) u in omega (arith, l)

  acyclic : (c : ℕ) → c < class_count b → cycle_rule b c ≡ true
  unfolding cycle_rule
  acyclic c h =
      ap not (refuted (inherits (parents_of b) (class_count b) c c) (λ e. no_way_back c h ((inherits_decides (parents_of b) (class_count b) closed c c h).0 e)))

  class_rules_alike : (c : ℕ) → c < class_count b → listed_rule b c ≡ class_rule b c
  unfolding listed_rule class_rule lower_parents
  class_rules_alike c h = rw (closed c h, ordered c h)

  pub opens_as_before : any_order_opening b ≡ opening b
  unfolding any_order_opening opening require_each lowest
  opens_as_before =
      rw (
        none_broken (cycle_rule b) (class_count b) acyclic,
        first_agree (λ k. not (listed_rule b k)) (λ k. not (class_rule b k)) (upto (class_count b)) (λ k m. ap not (class_rules_alike k (upto_below (class_count b) m))),
      )

  -- what follows opening goes by its answer and the model
  pub calls_as_before : {A : Type 0} (answer : Model → Answer A) → on_opening (any_order_opening b) (model_of b) answer ≡ when_open b answer
  unfolding when_open
  calls_as_before answer = rw opens_as_before

  pub scratch_as_before : (scratch : List ℕ) → scratch_on (any_order_opening b) (model_of b) scratch ≡ scratch_after b scratch
  unfolding scratch_after
  scratch_as_before scratch = rw opens_as_before

-- number 4 asks for lower parents
pub class_lower : (b : List ℕ) (c : ℕ) → class_rule b c ≡ true → lower_parents b c ≡ true
unfolding class_rule lower_parents
class_lower b c rule = search (and_left, and_right)

-- and for all that it asks with parents in any order
pub class_listed : (b : List ℕ) → ((c : ℕ) → c < class_count b → class_rule b c ≡ true) → (c : ℕ) → c < class_count b → listed_rule b c ≡ true
class_listed b kept c h = class_rules_alike b (λ k l. class_lower b k (kept k l)) c h ∙ kept c h

-- so a bundle that opens has its parents first, and no cycle
pub opened_parents_first : (b counts : List ℕ) → opening b ≡ gives counts → ParentsFirst b
opened_parents_first b counts e c h = let r = opened_rules b counts e in class_lower b c (r.of_class c h)

pub opening_acyclic : (b counts : List ℕ) → opening b ≡ gives counts → (c : ℕ) → c < class_count b → Inherits (parents_of b) c c → ⊥
opening_acyclic b counts e c h u = no_way_back b (opened_parents_first b counts e) c h u
