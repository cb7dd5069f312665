-- The stack of a walk: the classes from which it came, each a parent of the one before it, none of them placed. Where there is no cycle, fewer classes are above each
-- than above the one before it, so the stack has room.
-- Assumes nothing.
use Prim.Native.Nat.{ℕ, ◌+◌, ◌-◌, ◌≤◌, ◌<◌}
use native.Mathlib.Omega.{arith}
use mathlib.Core.Path.{◌≡◌, refl, sym, ap, ◌∙◌}
use mathlib.Core.Bool.{Bool, true, false, false≢true}
use mathlib.Core.Logic.{◌⊎◌, inl, inr}
use mathlib.Core.List.{List, [], ◌∷◌, ◌++◌, Memᴰ}
use lib.Dec.{eqb, ltb}
use lib.ListN.{length, get_or, set, take, length-append, get_or-append}
use lib.Seq.{get_or-append_seam}
use Rattle.std.proofs.lemmas.List.{length-take-le, get_or-take}
use borrow.Author.Tests.{ltb-true, ltb-false, eqb-true, eqb-false}
use Rattle.rules.specs.Bounded.{upto, every, keep}
use Rattle.rules.specs.Layout.{max_classes}
use Rattle.rules.specs.Inheritance.{reaches}
use Rattle.rules.proofs.Lists.{test, keep_in, mem_length, keep_upto_length, below_upto}
use Rattle.rules.proofs.Inheritance.{reaches_itself, above_falls}
use Rattle.inheritance.specs.Order.{is_placed, Acyclic}
use Rattle.inheritance.proofs.Orders.{marked_own, marked_other}

module _ (parents : ℕ → List ℕ) (n : ℕ) where
  -- how many classes are above a class
  abbrev height : ℕ → ℕ
  height c = length (keep (reaches parents n c) (upto n))

  -- from class c, where the stack is not empty; where it is, the class is placed
  pub record Stacked (c : ℕ) (stack : List ℕ) (placed : List Bool) : Type 0 where
    pub limit : length stack ≤ n
    pub bottom : 0 < length stack → get_or stack 0 0 ≡ c
    pub ended : length stack ≡ 0 → is_placed placed c ≡ true
    pub present : (i : ℕ) → i < length stack → get_or stack i 0 < n
    pub open_yet : (i : ℕ) → i < length stack → is_placed placed (get_or stack i 0) ≡ false
    pub chained : (i : ℕ) → i + 1 < length stack → Memᴰ (get_or stack (i + 1) 0) (parents (get_or stack i 0))
    pub falling : Acyclic parents n → (i : ℕ) → i < length stack → height (get_or stack i 0) + i ≤ n

  height_limit : (c : ℕ) → height c ≤ n
  height_limit c = keep_upto_length (reaches parents n c) n

  height_some : (c : ℕ) → c < n → 0 < height c
  height_some c h = mem_length (keep (reaches parents n c) (upto n)) (keep_in (reaches parents n c) (upto n) (below_upto n c h) (reaches_itself parents n c))

  pub stacked_one : (c : ℕ) (placed : List Bool) → c < n → is_placed placed c ≡ false → Stacked c (c ∷ []) placed
  stacked_one c placed h t =
      record {
        limit = omega arith;
        bottom = λ l. refl;
        ended = λ e. absurd (omega (arith, e));
        present = λ i l. let z : i ≡ 0 = omega arith in rw z h;
        open_yet = λ i l. let z : i ≡ 0 = omega arith in rw z t;
        chained = λ i l. absurd (omega arith);
        falling = λ a i l. let z : i ≡ 0 = omega arith in rw z (omega (arith, height_limit c));
      }

  -- the class on top
  module _ (closed : (c : ℕ) → c < n → every (λ p. ltb p n) (parents c) ≡ true) {c : ℕ} {stack : List ℕ} {placed : List Bool} (g : Stacked c stack placed) (some : 0 < length stack)
      (top : ℕ) (on-top : top ≡ get_or stack (length stack - 1) 0) where
    pub top_present : top < n
    top_present = rw on-top (g.present (length stack - 1) (omega arith))

    pub top_open : is_placed placed top ≡ false
    top_open = rw on-top (g.open_yet (length stack - 1) (omega arith))

    top_falling : Acyclic parents n → height top + (length stack - 1) ≤ n
    top_falling acyclic = rw on-top (g.falling acyclic (length stack - 1) (omega arith))

    -- a parent of the class on top is lower, so with n classes on the stack there is a cycle
    pub stack_full : (p : ℕ) → Memᴰ p (parents top) → p < n → length stack ≡ n → Acyclic parents n → ⊥
    stack_full p m h full acyclic =
        omega (arith, above_falls parents n closed acyclic top_present m, height_some p h, top_falling acyclic)

    -- the parent goes on top
    pub stacked_push : (p : ℕ) → Memᴰ p (parents top) → p < n → is_placed placed p ≡ false → length stack < n → Stacked c (stack ++ p ∷ []) placed
    stacked_push p m h t room =
        record {
          limit = omega (arith, one_more);
          bottom = λ l. kept 0 some ∙ g.bottom some;
          ended = λ e. absurd (omega (arith, e, one_more));
          present = λ i l. at (λ x. x < n) h (λ k. g.present k) i (omega (arith, one_more));
          open_yet = λ i l. at (λ x. is_placed placed x ≡ false) t (λ k. g.open_yet k) i (omega (arith, one_more));
          chained = λ i l. chained i (omega (arith, one_more)) (test (eqb (i + 1) (length stack)));
          falling = λ a i l. falling a i (omega (arith, one_more)) (test (ltb i (length stack)));
        }
      where
        one_more : length (stack ++ p ∷ []) ≡ length stack + 1
        one_more = length-append stack (p ∷ [])

        kept : (i : ℕ) → i < length stack → get_or (stack ++ p ∷ []) i 0 ≡ get_or stack i 0
        kept i l = get_or-append stack (p ∷ []) 0 i l

        own : get_or (stack ++ p ∷ []) (length stack) 0 ≡ p
        own = get_or-append_seam stack p [] 0

        at : (P : ℕ → Type 0) → P p → ((k : ℕ) → k < length stack → P (get_or stack k 0)) → (i : ℕ) → i < length stack + 1 → P (get_or (stack ++ p ∷ []) i 0)
        at P new old i l = go (test (ltb i (length stack)))
          where
            go : (ltb i (length stack) ≡ true) ⊎ (ltb i (length stack) ≡ false) → P (get_or (stack ++ p ∷ []) i 0)
            go (inl q) = rw (kept i (ltb-true i (length stack) q)) (old i (ltb-true i (length stack) q))
            go (inr q) = let e : i ≡ length stack = omega (arith, ltb-false i (length stack) q) in rw (e, own) new

        chained : (i : ℕ) → i + 1 < length stack + 1 → (eqb (i + 1) (length stack) ≡ true) ⊎ (eqb (i + 1) (length stack) ≡ false)
            → Memᴰ (get_or (stack ++ p ∷ []) (i + 1) 0) (parents (get_or (stack ++ p ∷ []) i 0))
        chained i l (inl q) =
            let e = eqb-true (i + 1) (length stack) q in
            let last : i ≡ length stack - 1 = omega (arith, e) in
            rw (kept i (omega arith), e, own, last, ← on-top) m
        chained i l (inr q) =
            let d = eqb-false (i + 1) (length stack) q in
            rw (kept i (omega arith), kept (i + 1) (omega (arith, d))) (g.chained i (omega (arith, d)))

        falling : Acyclic parents n → (i : ℕ) → i < length stack + 1 → (ltb i (length stack) ≡ true) ⊎ (ltb i (length stack) ≡ false)
            → height (get_or (stack ++ p ∷ []) i 0) + i ≤ n
        falling a i l (inl q) = let k = ltb-true i (length stack) q in rw (kept i k) (g.falling a i k)
        falling a i l (inr q) =
            let e : i ≡ length stack = omega (arith, ltb-false i (length stack) q) in
            rw (e, own) (omega (arith, above_falls parents n closed a top_present m, top_falling a))

    -- the class on top is placed and goes; it stands nowhere else on the stack, since the class above it there would be a parent that is not placed
    pub stacked_pop : length placed ≡ max_classes → n ≤ max_classes → ((p : ℕ) → Memᴰ p (parents top) → is_placed placed p ≡ true)
        → Stacked c (take (length stack - 1) stack) (set placed top true)
    stacked_pop long limit ready =
        record {
          limit = omega (arith, g.limit, one_less);
          bottom = λ l. rw (kept 0 (omega (arith, one_less))) (g.bottom some);
          ended = λ e.
              let z : length stack - 1 ≡ 0 = omega (arith, e, one_less) in
              let same : top ≡ c = on-top ∙ ap (λ (i : ℕ). get_or stack i 0) z ∙ g.bottom some in
              rw (← same) (marked_own placed top (omega (arith, long, top_present)));
          present = λ i l. let k : i < length stack - 1 = omega (arith, one_less) in rw (kept i k) (g.present i (omega arith));
          open_yet = λ i l.
              let k : i < length stack - 1 = omega (arith, one_less) in
              rw (kept i k) (marked_other placed top (get_or stack i 0) (other i k) ∙ g.open_yet i (omega arith));
          chained = λ i l.
              let k : i + 1 < length stack - 1 = omega (arith, one_less) in
              rw (kept i (omega arith), kept (i + 1) k) (g.chained i (omega arith));
          falling = λ a i l. let k : i < length stack - 1 = omega (arith, one_less) in rw (kept i k) (g.falling a i (omega arith));
        }
      where
        one_less : length (take (length stack - 1) stack) ≡ length stack - 1
        one_less = length-take-le (length stack - 1) stack (omega arith)

        kept : (i : ℕ) → i < length stack - 1 → get_or (take (length stack - 1) stack) i 0 ≡ get_or stack i 0
        kept i l = get_or-take (length stack - 1) stack i 0 l

        other : (i : ℕ) → i < length stack - 1 → get_or stack i 0 ≡ top → ⊥
        other i l e =
            let m : Memᴰ (get_or stack (i + 1) 0) (parents top) = rw (← e) (g.chained i (omega arith)) in
            false≢true (sym (g.open_yet (i + 1) (omega arith)) ∙ ready (get_or stack (i + 1) 0) m)
