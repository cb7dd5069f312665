-- The rows of the closure: how they are made from the lists of parents, and how a round adds the ways through one more class.
-- Assumes nothing.
use Prim.Native.Nat.{ℕ, ◌+◌, ◌≤◌, ◌<◌}
use native.Mathlib.Numerals.{add-one}
use native.Mathlib.Omega.{arith}
use mathlib.Core.Path.{◌≡◌, sym, ap₂, ◌∙◌}
use mathlib.Core.Bool.{Bool, true, false, ◌&&◌, ◌||◌}
use mathlib.Core.Logic.{◌⊎◌, inl, inr}
use mathlib.Core.List.{List}
use lib.Dec.{eqb}
use lib.ListN.{length, get_or, take, set, length-set}
use lib.Seq.{take_all, get_or-set_same, get_or-set_other}
use borrow.Author.Tests.{eqb-true, eqb-false}
use Rattle.rules.specs.Bounded.{any}
use Rattle.rules.specs.Layout.{max_classes}
use Rattle.rules.proofs.Lists.{test, any_take}
use Rattle.rules.proofs.Bits.{same_test}
use Rattle.inheritance.specs.declared.class_set.ClassSet.{ClassSet}
use Rattle.inheritance.specs.Rows.{RowsOf, has_class, no_class, rows_have}
use Rattle.inheritance.specs.Closure.{joined_at, through}

-- the set of the first i parents: of none, of one more, of all
pub record ParentsTo (parents : List ℕ) (i : ℕ) (s : ClassSet) : Type 0 where
  pub within : i ≤ length parents
  pub told : (b : ℕ) → b < max_classes → has_class s b ≡ any (eqb b) (take i parents)

module _ (parents : List ℕ) where
  pub parents_none : (s : ClassSet) → ((b : ℕ) → b < max_classes → has_class s b ≡ false) → ParentsTo parents 0 s
  unfolding any
  parents_none s none = record { within = omega arith; told = none }

  pub parents_more : (s own new : ClassSet) (i p : ℕ) → ParentsTo parents i s → i < length parents → p ≡ get_or parents i 0
      → ((b : ℕ) → b < max_classes → has_class own b ≡ eqb p b) → ((b : ℕ) → b < max_classes → has_class new b ≡ (has_class s b || has_class own b))
      → ParentsTo parents (i + 1) new
  parents_more s own new i p f h e single both =
      record {
        within = omega arith;
        told = λ b l.
            both b l
            ∙ ap₂ ◌||◌ (f.told b l) (single b l ∙ same_test p b b (get_or parents i 0) (λ q. sym q ∙ e) (λ q. e ∙ sym q))
            ∙ sym (any_take (eqb b) parents 0 i h);
      }

  pub parents_all : (s : ClassSet) (i : ℕ) → ParentsTo parents i s → length parents ≤ i → (b : ℕ) → b < max_classes → has_class s b ≡ any (eqb b) parents
  parents_all s i f h b l = rw (take_all i parents h) at (f.told b l)

-- one row more
module _ (f : ℕ → ℕ → Bool) where
  pub rows_none : (rows : List ClassSet) → length rows ≡ max_classes → RowsOf f 0 rows
  rows_none rows e = record { long = e; told = λ a c h k. absurd (omega arith) }

  pub rows_more : (rows : List ClassSet) (row : ClassSet) (a : ℕ) → RowsOf f a rows → a < max_classes → ((c : ℕ) → c < max_classes → has_class row c ≡ f a c)
      → RowsOf f (a + 1) (set rows a row)
  rows_more rows row a made h own = record { long = length-set rows a row ∙ made.long; told = λ x c l k. go x c l k (test (eqb x a)) }
    where
      go : (x c : ℕ) → x < a + 1 → c < max_classes → (eqb x a ≡ true) ⊎ (eqb x a ≡ false) → rows_have (set rows a row) x c ≡ f x c
      go x c l k (inl e) = rw (eqb-true x a e, get_or-set_same rows a row no_class (omega (arith, made.long))) (own c k)
      go x c l k (inr e) =
          let d = eqb-false x a e in
          rw (get_or-set_other rows a x row no_class d) (made.told x c (omega (arith, d)) k)

-- A round, up to class a: the rows below have the ways through class k, the others are as they were.
pub record RoundTo (old : List ClassSet) (k a : ℕ) (rows : List ClassSet) : Type 0 where
  pub done : RowsOf (joined_at (rows_have old) k) a rows
  pub left : (x : ℕ) → a ≤ x → get_or rows x no_class ≡ get_or old x no_class

-- from the ways through the first k classes to those through one more
module _ (parents : ℕ → List ℕ) (n : ℕ) where
  pub round_through : (old new : List ClassSet) (k : ℕ) → k < n → n ≤ max_classes → RowsOf (through parents k) n old → RowsOf (joined_at (rows_have old) k) n new
      → RowsOf (through parents (k + 1)) n new
  unfolding through
  round_through old new k h fit f g =
      record {
        long = g.long;
        told = λ a c l m.
            g.told a c l m
            ∙ rw add-one (ap₂ ◌||◌ (f.told a c l m) (ap₂ ◌&&◌ (f.told a k l (omega arith)) (f.told k c h m)));
      }
