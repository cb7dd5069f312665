-- The running end is the sum of the sizes before it: one law over the rule and the size function, and what follows for lists and bodies.
-- Assumes nothing.
use Prim.Native.Nat.{ℕ, zero, suc, ◌+◌, ◌≤◌, ◌<◌}
use native.Mathlib.Numerals.{add-one}
use native.Mathlib.Omega.{arith}
use mathlib.Core.Path.{◌≡◌, refl, ap, sym, subst, ◌∙◌}
use mathlib.Core.Bool.{Bool, true}
use mathlib.Core.List.{List}
use borrow.Author.Count.{below_more}
use Rattle.rules.specs.Bounded.{sum}
use Rattle.rules.specs.Layout.{class_rule, method_rule, class_count, method_count, list_offset, list_length, body_offset, body_length, extent, parent_section, code_section}
use Rattle.rules.specs.Running.{Reached, first, next, EndsAreSums, RunningEnds}

pub sum_next : (f : ℕ → ℕ) (k : ℕ) → sum f (k + 1) ≡ sum f k + f k
unfolding sum
sum_next f k = rw (add-one k)

module _ {rule : ℕ → Bool} {size : ℕ → ℕ} {n : ℕ} where
  pub running_end : {k end : ℕ} → Reached rule size n k end → end ≡ sum size k
  unfolding sum
  running_end first = refl
  running_end (next {k} before inside kept) = ap (λ s. s + size k) (running_end before) ∙ sym (sum_next size k)

  pub lower_kept : {k end : ℕ} → Reached rule size n k end → (j : ℕ) → j < k → rule j ≡ true
  lower_kept first j l = absurd (omega arith)
  lower_kept (next before inside kept) j l = below_more _ _ (λ i h. lower_kept before i h) kept j l

  pub all_reached : (k : ℕ) → k ≤ n → ((j : ℕ) → j < k → rule j ≡ true) → Reached rule size n k (sum size k)
  unfolding sum
  all_reached zero l kept = first
  all_reached (suc k) l kept =
      subst (λ x. Reached rule size n x (sum size x)) (add-one k)
      (rw (sum_next size k) (next (all_reached k (omega arith) (λ j i. kept j (omega arith))) (omega arith) (kept k (omega arith))))

pub ends_are_sums : (rule : ℕ → Bool) (start size : ℕ → ℕ) (n end : ℕ) → EndsAreSums rule start size n end
ends_are_sums rule start size n end =
    record {
      is_sum = λ k before r. running_end r;
      judged_alike = λ k before r. rw (running_end r);
      all_reached = all_reached;
    }

pub running_ends : (b : List ℕ) → RunningEnds b
running_ends b =
    record {
      lists = ends_are_sums (class_rule b) (list_offset b) (list_length b) (class_count b) (extent b parent_section);
      bodies = ends_are_sums (method_rule b) (body_offset b) (body_length b) (method_count b) (extent b code_section);
    }
