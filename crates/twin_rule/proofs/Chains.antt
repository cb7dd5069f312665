-- The chains of the buckets, made from the lowest method up, and the walk down a chain.
-- Assumes nothing.
use Prim.Native.Nat.{ℕ, ◌+◌, ◌-◌, ◌≤◌, ◌<◌}
use native.Mathlib.Decide.{ℕ_discrete}
use native.Mathlib.Nat.{eq-or-lt_of_le}
use native.Mathlib.Omega.{arith}
use mathlib.Core.Path.{◌≡◌, refl, sym, ◌∙◌}
use mathlib.Core.Bool.{Bool, true, false}
use mathlib.Core.Logic.{◌⊎◌, inl, inr}
use mathlib.Core.List.{List}
use lib.Dec.{ltb}
use Rattle.std.proofs.Common.{Option, None, Some, SomeIff}
use lib.ListN.{length, get_or, set, replicate, length-set, length-replicate, get_or-replicate}
use lib.Seq.{get_or-set_same, get_or-set_other}
use borrow.Author.Tests.{ltb-true, ltb-false}
use Rattle.rules.specs.Layout.{max_methods, method_count, twins}
use Rattle.layout.specs.declared.bundle.Bundle.{Bundle}
use Rattle.layout.specs.Tables.{Placed}
use Rattle.rules.proofs.Decides.{refuted}
use Rattle.twin_rule.specs.Chain.{buckets, bucket_of, Highest, ChainedBelow, Chained, chained}
use Rattle.twin_rule.proofs.Twins.{twins_share}

module _ (b : List ℕ) where
  highest_none : (h : ℕ) → Highest b h 0 0
  highest_none h = record { within = omega arith; found = λ l. absurd (omega arith); above = λ j p q e. omega arith }

  -- a method is the highest of its own bucket, and leaves those of the others as they were
  highest_itself : (k h : ℕ) → bucket_of b k ≡ h → Highest b h (k + 1) (k + 1)
  highest_itself k h e =
      let one : k + 1 - 1 ≡ k = omega arith in
      record { within = omega arith; found = λ l. rw one e; above = λ j p q s. omega arith }

  highest_other : (k h e : ℕ) → (bucket_of b k ≡ h → ⊥) → Highest b h k e → Highest b h (k + 1) e
  highest_other k h e d n =
      record { within = omega (arith, n.within); found = n.found; above = λ j p q s. go j p s (eq-or-lt_of_le (omega arith)) }
    where
      go : (j : ℕ) → e ≤ j → bucket_of b j ≡ h → (j ≡ k) ⊎ (j < k) → ⊥
      go j p s (inl same) = d (rw (← same) s)
      go j p s (inr lower) = n.above j p lower s

  pub chain_none : ChainedBelow b (replicate (buckets + max_methods) 0) 0
  chain_none =
      record {
        long = length-replicate {A = ℕ} (buckets + max_methods) 0;
        begins = λ h l. rw (get_or-replicate {A = ℕ} (buckets + max_methods) h 0 0 (omega arith)) (highest_none h);
        goes_on = λ m l. absurd (omega arith);
        left = λ m l few. get_or-replicate {A = ℕ} (buckets + max_methods) (buckets + m) 0 0 (omega arith);
      }

  -- with one method more: it leads where its bucket's entry led, and that entry to it
  pub chain_more : (chains : List ℕ) (k h : ℕ) → ChainedBelow b chains k → bucket_of b k ≡ h → k < max_methods → h < buckets
      → ChainedBelow b (set (set chains (buckets + k) (get_or chains h 0)) h (k + 1)) (k + 1)
  chain_more chains k h i e few low =
      record {
        long = length-set linked h (k + 1) ∙ linked_long ∙ i.long;
        begins = λ g l. begin g l (ℕ_discrete g h);
        goes_on = λ m l. go_on m (eq-or-lt_of_le (omega arith));
        left = λ m l most. unset m (λ q. omega arith) ∙ i.left m (omega arith) most;
      }
    where
      linked : List ℕ
      linked = set chains (buckets + k) (get_or chains h 0)

      linked_long : length linked ≡ length chains
      linked_long = length-set chains (buckets + k) (get_or chains h 0)

      begin : (g : ℕ) → g < buckets → Dec (g ≡ h) → Highest b g (k + 1) (get_or (set linked h (k + 1)) g 0)
      begin g l (yes s) = rw (s, get_or-set_same linked h (k + 1) 0 (omega (arith, linked_long, i.long))) (highest_itself k h e)
      begin g l (no d) =
          rw (get_or-set_other linked h g (k + 1) 0 d, get_or-set_other chains (buckets + k) g (get_or chains h 0) 0 (λ q. omega arith))
          (highest_other k g (get_or chains g 0) (λ q. d (sym q ∙ e)) (i.begins g l))

      -- the entries of other methods are as they were
      unset : (m : ℕ) → (m ≡ k → ⊥) → get_or (set linked h (k + 1)) (buckets + m) 0 ≡ get_or chains (buckets + m) 0
      unset m apart =
          get_or-set_other linked h (buckets + m) (k + 1) 0 (λ q. omega arith)
          ∙ get_or-set_other chains (buckets + k) (buckets + m) (get_or chains h 0) 0 (λ q. apart (omega arith))

      go_on : (m : ℕ) → (m ≡ k) ⊎ (m < k) → Highest b (bucket_of b m) m (get_or (set linked h (k + 1)) (buckets + m) 0)
      go_on m (inl s) =
          rw (s, e, get_or-set_other linked h (buckets + k) (k + 1) 0 (λ q. omega arith), get_or-set_same chains (buckets + k) (get_or chains h 0) 0 (omega (arith, i.long)))
          (i.begins h low)
      go_on m (inr s) = rw (unset m (λ q. omega arith)) (i.goes_on m s)

pub chained_of : {b chains : List ℕ} → Chained b chains → ChainedBelow b chains (method_count b)
chained_of (chained i) = i

-- the entry that leads to a method, or to none
abbrev pub entry_to : Option ℕ → ℕ
entry_to None = 0
entry_to (Some n) = n + 1

-- the method that an entry leads to, read from it
pub entry_read : (e : ℕ) (next : Option ℕ) → SomeIff next (1 ≤ e) (e - 1) → entry_to next ≡ e
entry_read e None h = grind arith
entry_read e (Some n) h = omega arith

-- A walk down the chain of method m's bucket: no method from e on and below m is its twin, and the one before e is of the bucket.
pub record Walking (b : List ℕ) (m e : ℕ) : Type 0 where
  pub within : e ≤ m
  pub of_bucket : 0 < e → bucket_of b (e - 1) ≡ bucket_of b m
  pub passed : (j : ℕ) → e ≤ j → j < m → twins b m j ≡ false

module _ {b : List ℕ} {t : Bundle} (placed : Placed b t) {chains : List ℕ} (i : Chained b chains) where
  module _ (m : ℕ) (low : m < t.methods) where
    -- a method of another bucket is no twin
    apart : (j : ℕ) → j < m → (bucket_of b j ≡ bucket_of b m → ⊥) → twins b m j ≡ false
    apart j l d = refuted (twins b m j) (λ s. d (sym (twins_share placed m j low (omega arith) s)))

    pub walk_begins : Walking b m (get_or chains (buckets + m) 0)
    walk_begins =
        let n = (chained_of i).goes_on m (omega (arith, placed.tables.methods)) in
        record { within = n.within; of_bucket = n.found; passed = λ j p l. apart j l (n.above j p l) }

    -- from method n, which is no twin, to the next lower one of the bucket
    module _ (n : ℕ) (w : Walking b m (n + 1)) where
      next_lower : Highest b (bucket_of b n) n (get_or chains (buckets + n) 0)
      next_lower = (chained_of i).goes_on n (omega (arith, w.within, placed.tables.methods))

      same_bucket : bucket_of b n ≡ bucket_of b m
      same_bucket = let one : n + 1 - 1 ≡ n = omega arith in rw one at (w.of_bucket (omega arith))

      pub walk_next : twins b m n ≡ false → Walking b m (get_or chains (buckets + n) 0)
      walk_next differs =
          record {
            within = omega (arith, next_lower.within, w.within);
            of_bucket = λ l. next_lower.found l ∙ same_bucket;
            passed = λ j p l. go j p l (ltb j n) refl;
          }
        where
          at_least : (j : ℕ) → j < m → (n ≡ j) ⊎ (n < j) → twins b m j ≡ false
          at_least j l (inl q) = rw (← q) differs
          at_least j l (inr h) = w.passed j (omega arith) l

          go : (j : ℕ) → get_or chains (buckets + n) 0 ≤ j → j < m → (t : Bool) → ltb j n ≡ t → twins b m j ≡ false
          go j p l true q = apart j l (λ s. next_lower.above j p (ltb-true j n q) (s ∙ sym same_bucket))
          go j p l false q = at_least j l (eq-or-lt_of_le (ltb-false j n q))
