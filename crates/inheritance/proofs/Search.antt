-- The lowest class on a cycle: none, where the classes have an order with parents first; else by the finished closure, in which a class lies on a cycle where its own row
-- has it.
-- Assumes nothing.
use Prim.Native.Nat.{ℕ, ◌<◌}
use native.Mathlib.Omega.{arith}
use mathlib.Core.Path.{◌≡◌, sym, ap, ◌∙◌}
use mathlib.Core.Bool.{true, false, not, not-not}
use mathlib.Core.List.{List}
use mathlib.Core.Option.{none, some}
use Rattle.rules.specs.Layout.{parents_of, class_count, lowest}
use Rattle.rules.specs.Cycles.{cycle_rule}
use Rattle.rules.proofs.Lists.{some_lowest, none_lowest}
use Rattle.rules.proofs.Opening.{none_broken}
use Rattle.layout.specs.Listed.{Listed}
use Rattle.layout.specs.declared.bundle.Bundle.{Bundle}
use Rattle.layout.proofs.Lists.{placed_listed, parents_classes}
use Rattle.inheritance.specs.Order.{Acyclic}
use Rattle.inheritance.specs.declared.class_set.ClassSet.{ClassSet}
use Rattle.inheritance.specs.Rows.{RowsOf, rows_have}
use Rattle.inheritance.specs.Closure.{through}
use Rattle.inheritance.proofs.Through.{through_inherits}

pub acyclic_none : {b : List ℕ} {t : Bundle} → Listed b t → Acyclic (parents_of b) t.classes → none ≡ lowest (cycle_rule b) (class_count b)
unfolding cycle_rule
acyclic_none {b} {t} l acyclic =
    let counted = (placed_listed l).tables.classes in
    sym (none_broken (cycle_rule b) (class_count b) (λ c h. ap not (rw counted at (acyclic c (omega (arith, counted))))))

module _ {b : List ℕ} {t : Bundle} (l : Listed b t) (rows : List ClassSet) (f : RowsOf (through (parents_of b) t.classes) t.classes rows) where
  counted : t.classes ≡ class_count b
  counted = (placed_listed l).tables.classes

  own_told : (c : ℕ) → c < class_count b → rows_have rows c c ≡ not (cycle_rule b c)
  unfolding cycle_rule
  own_told c h =
      let k : c < t.classes = omega (arith, counted) in
      f.told c c k (omega (arith, (placed_listed l).classes_limit))
      ∙ through_inherits (parents_of b) t.classes (parents_classes l) c c k
      ∙ rw (counted, not-not)

  pub cycle_found : (c : ℕ) → c < t.classes → rows_have rows c c ≡ true → ((d : ℕ) → d < c → rows_have rows d d ≡ false)
      → some c ≡ lowest (cycle_rule b) (class_count b)
  unfolding lowest
  cycle_found c h e lower =
      let k : c < class_count b = omega (arith, counted) in
      sym (some_lowest (λ d. not (cycle_rule b d)) (class_count b) c k (sym (own_told c k) ∙ e) (λ d i. sym (own_told d (omega arith)) ∙ lower d i))

  pub no_cycle : ((d : ℕ) → d < t.classes → rows_have rows d d ≡ false) → none ≡ lowest (cycle_rule b) (class_count b)
  unfolding lowest
  no_cycle clear = sym (none_lowest (λ d. not (cycle_rule b d)) (class_count b) (λ d i. sym (own_told d i) ∙ clear d (omega (arith, counted))))
