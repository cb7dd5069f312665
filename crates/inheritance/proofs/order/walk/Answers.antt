-- `inheritance::order::walk` meets its contract: a parent that is waited for goes on the stack, which has room for it unless there is a cycle, and else the class on top is
-- placed.
-- Assumes nothing.
use Rattle.std.proofs.Common.{rules, ap, length-take-le, ◌∙◌, ℕ, Bool, ◌-◌, ◌≤◌, ◌<◌, ◌≡◌, sym, true, false, not, List, [], ◌∷◌, ◌++◌, length, take, get_or, set, arith}
use mathlib.Core.List.{Memᴰ}
use mathlib.Core.Option.{none, some}
use borrow.Author.Tests.{not-true, not-false}
use Rattle.rules.specs.Bytes.{byte}
use Rattle.rules.specs.Layout.{max_classes, parents_of}
use Rattle.rules.proofs.Lists.{first_mem, first_none}
use Rattle.rules.proofs.Inheritance.{parent_present}
use Rattle.layout.specs.Listed.{Listed}
use Rattle.layout.specs.declared.bundle.Bundle.{Bundle}
use Rattle.layout.proofs.Lists.{placed_listed, parents_classes}
use Rattle.inheritance.specs.Order.{is_placed, waiting, Acyclic, Placing}
use Rattle.inheritance.proofs.Orders.{count_below, placing_more, marked_still}
use Rattle.inheritance.proofs.Stack.{Stacked, stacked_one, top_present, top_open, stack_full, stacked_push, stacked_pop}
use Rattle.inheritance.proofs.order.walk.Goals as goal

-- the class on top is the last of the stack
on_top : (stack slice : List ℕ) (n x : ℕ) → slice ≡ stack → n ≡ length stack → x ≡ byte slice (n - 1) → x ≡ get_or stack (length stack - 1) 0
unfolding byte
on_top stack slice n x e f g = rw (e, f) at g

-- what is known of the class on top of the stack
module _ {b : List ℕ} {t : Bundle} (l : Listed b t) {c : ℕ} {classes stack : List ℕ} {placed : List Bool} (g : Placing (parents_of b) t.classes classes placed)
    (s : Stacked (parents_of b) t.classes c stack placed) (deep : 0 < length stack) (top : ℕ) (at_top : top ≡ get_or stack (length stack - 1) 0) where
  limit : t.classes ≤ max_classes
  limit = (placed_listed l).classes_limit

  top_class : top < t.classes
  top_class = top_present (parents_of b) t.classes (parents_classes l) s deep top at_top

  open_yet : is_placed placed top ≡ false
  open_yet = top_open (parents_of b) t.classes (parents_classes l) s deep top at_top

  room : length classes < t.classes
  room = count_below (parents_of b) t.classes g top top_class open_yet

  -- a parent that it waits for
  module _ (p : ℕ) (e : some p ≡ waiting (parents_of b) placed top) where
    named : Memᴰ p (parents_of b top) × (is_placed placed p ≡ false)
    unfolding waiting
    named = let (m, q) = first_mem (λ q. not (is_placed placed q)) (parents_of b top) (sym e) in (m, not-true (is_placed placed p) q)

    named_class : p < t.classes
    named_class = parent_present (parents_of b) t.classes (parents_classes l) top_class named.0

    full : length stack ≡ t.classes → Acyclic (parents_of b) t.classes → ⊥
    full = stack_full (parents_of b) t.classes (parents_classes l) s deep top at_top p named.0 named_class

    pushed : length stack < t.classes → Stacked (parents_of b) t.classes c (stack ++ p ∷ []) placed
    pushed = stacked_push (parents_of b) t.classes (parents_classes l) s deep top at_top p named.0 named_class named.1

  -- or none
  module _ (e : none ≡ waiting (parents_of b) placed top) where
    ready : (p : ℕ) → Memᴰ p (parents_of b top) → (p < t.classes) × (is_placed placed p ≡ true)
    unfolding waiting
    ready p m = (
      parent_present (parents_of b) t.classes (parents_classes l) top_class m,
      not-false (is_placed placed p) (first_none (λ q. not (is_placed placed q)) (parents_of b top) (sym e) m),
    )

    more : Placing (parents_of b) t.classes (classes ++ top ∷ []) (set placed top true)
    more = placing_more (parents_of b) t.classes g limit top top_class open_yet ready

    popped : Stacked (parents_of b) t.classes c (take (length stack - 1) stack) (set placed top true)
    popped = stacked_pop (parents_of b) t.classes (parents_classes l) s deep top at_top g.long limit (λ p m. (ready p m).1)

    still_placed : (d : ℕ) → is_placed placed d ≡ true → is_placed (set placed top true) d ≡ true
    still_placed d = marked_still placed top d (omega (arith, g.long, top_class, limit))

pub loop-stack-init : goal.loop-stack-init
loop-stack-init c =
    let r = c.requires in
    let one : c.push.new.self.items ≡ c.args.c ∷ [] = rw c.new-stack.ensures at c.push.ensures.items in
    record { ordered = r.placing; stacked = rw one (stacked_one (parents_of c.args.bundle.now.bytes.now) c.args.bundle.now.tables.classes c.args.c c.args.placed.now r.c_lt_classes r.c_open); still = λ d h t. t }

pub waiting_for-requires : goal.waiting_for-requires
waiting_for-requires c =
    let i = c.loop-stack.invariant in
    let l = c.args.bundle.now.listed in
    let deep : 0 < length c.loop-stack.stack.items = search rules in
    let top = on_top _ _ _ _ c.as_slice.ensures.value c.len.ensures.value c.byte_at-top.ensures.0 in
    top_class l i.ordered i.stacked deep c.byte_at-top.result top

pub returns-then-len-bundle : goal.returns-then-len-bundle
returns-then-len-bundle c =
    let i = c.loop-stack.invariant in
    let l = c.args.bundle.now.listed in
    let deep : 0 < length c.loop-stack.stack.items = search rules in
    let top = on_top _ _ _ _ c.as_slice.ensures.value c.len.ensures.value c.byte_at-top.ensures.0 in
    full l i.ordered i.stacked deep c.byte_at-top.result top c.in-Some.p c.in-Some.ensures (sym c.len-in-Some.ensures.value ∙ c.if-len-bundle.true)

pub overflow_cast-p : goal.overflow_cast-p
overflow_cast-p c =
    let i = c.loop-stack.invariant in
    let l = c.args.bundle.now.listed in
    let deep : 0 < length c.loop-stack.stack.items = search rules in
    let top = on_top _ _ _ _ c.as_slice.ensures.value c.len.ensures.value c.byte_at-top.ensures.0 in
    omega (arith, named_class l i.ordered i.stacked deep c.byte_at-top.result top c.in-Some.p c.in-Some.ensures, (placed_listed l).classes_limit)

pub loop-stack-preserved-in-Some : goal.loop-stack-preserved-in-Some
loop-stack-preserved-in-Some c =
    let i = c.loop-stack.invariant in
    let l = c.args.bundle.now.listed in
    let deep : 0 < length c.loop-stack.stack.items = search rules in
    let top = on_top _ _ _ _ c.as_slice.ensures.value c.len.ensures.value c.byte_at-top.ensures.0 in
    let room : length c.loop-stack.stack.items < c.args.bundle.now.tables.classes = omega (arith, c.if-len-bundle.false, c.len-in-Some.ensures.value, i.stacked.limit) in
    record {
      ordered = i.ordered;
      stacked = rw c.push-in-Some.ensures.items (pushed l i.ordered i.stacked deep c.byte_at-top.result top c.in-Some.p c.in-Some.ensures room);
      still = i.still;
    }

pub push-requires-in-loop-stack : goal.push-requires-in-loop-stack
push-requires-in-loop-stack c =
    let i = c.loop-stack.invariant in
    let l = c.args.bundle.now.listed in
    let deep : 0 < length c.loop-stack.stack.items = search rules in
    let top = on_top _ _ _ _ c.as_slice.ensures.value c.len.ensures.value c.byte_at-top.ensures.0 in
    (omega arith, omega (arith, room l i.ordered i.stacked deep c.byte_at-top.result top, (placed_listed l).classes_limit))

pub bounds-placed-top : goal.bounds-placed-top
bounds-placed-top c =
    let i = c.loop-stack.invariant in
    let l = c.args.bundle.now.listed in
    let deep : 0 < length c.loop-stack.stack.items = search rules in
    let top = on_top _ _ _ _ c.as_slice.ensures.value c.len.ensures.value c.byte_at-top.ensures.0 in
    omega (arith, top_class l i.ordered i.stacked deep c.byte_at-top.result top, (placed_listed l).classes_limit)

pub loop-stack-smaller : goal.loop-stack-smaller
loop-stack-smaller c =
    let i = c.loop-stack.invariant in
    let l = c.args.bundle.now.listed in
    let deep : 0 < length c.loop-stack.stack.items = search rules in
    let top = on_top _ _ _ _ c.as_slice.ensures.value c.len.ensures.value c.byte_at-top.ensures.0 in
    omega (arith, room l i.ordered i.stacked deep c.byte_at-top.result top, c.push-in-loop-stack.ensures.len, i.stacked.limit, length-take-le (length c.loop-stack.stack.items - 1) c.loop-stack.stack.items (omega arith), ap length c.pop.ensures.rest)

pub loop-stack-preserved : goal.loop-stack-preserved
loop-stack-preserved c =
    let i = c.loop-stack.invariant in
    let l = c.args.bundle.now.listed in
    let deep : 0 < length c.loop-stack.stack.items = search rules in
    let top = on_top _ _ _ _ c.as_slice.ensures.value c.len.ensures.value c.byte_at-top.ensures.0 in
    record {
      ordered = rw c.push-in-loop-stack.ensures.items (more l i.ordered i.stacked deep c.byte_at-top.result top c.in_default.ensures);
      stacked = rw c.pop.ensures.rest (popped l i.ordered i.stacked deep c.byte_at-top.result top c.in_default.ensures);
      still = λ d h t. still_placed l i.ordered i.stacked deep c.byte_at-top.result top c.in_default.ensures d (i.still d h t);
    }
