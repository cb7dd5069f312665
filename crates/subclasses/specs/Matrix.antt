-- The scratch as the subclass matrix of a model, and the rows of the matrix as sets of classes.
-- Assumes nothing.
use Rattle.std.specs.Prelude.{ℕ, ◌*◌, ◌/◌, ◌%◌, ◌^◌, ◌≤◌, ◌<◌, ◌≡◌, Bool, ◌&&◌, List, eqb, ltb, length}
use mathlib.Core.Path.{ap, ◌∙◌}
use denote.Struct.Props.{props}
use Rattle.rules.specs.Bounded.{matching}
use Rattle.rules.specs.Layout.{max_classes}
use Rattle.rules.specs.Model.{Model}
use Rattle.rules.specs.Subclass.{Ancestry, ancestry_by}
use Rattle.rules.specs.Scratch.{scratch_bytes, class_under, entry_at}
use Rattle.inheritance.specs.Rows.{has_class, rows_have}
use Rattle.inheritance.specs.declared.class_set.ClassSet.{ClassSet}

-- all of it is there, by its entries; a data type, so that proofs pass it on whole
pub data Filled (M : Model) (s : List ℕ) : Type 0 where
  filled : scratch_bytes ≤ length s → ((a c : ℕ) → a < max_classes → c < max_classes → entry_at s a c ≡ class_under M a c) → Filled M s

-- there is one proof of it at most, so that a value can carry it
pub Filled-prop : (M : Model) (s : List ℕ) → IsProp (Filled M s)
Filled-prop M s (filled p x) (filled q y) =
    let long : IsProp (scratch_bytes ≤ length s) = hlevel props in
    let entries : IsProp ((a c : ℕ) → a < max_classes → c < max_classes → entry_at s a c ≡ class_under M a c) = hlevel props in
    ap (λ e. filled e x) (long p q) ∙ ap (filled q) (entries x y)

-- how a class stands to another by their entry and their numbers
unfoldable pub ancestry_at : List ℕ → ℕ → ℕ → Ancestry
ancestry_at s a c = ancestry_by (entry_at s a c) (eqb a c)

-- the entries of two tuples, place by place
unfoldable pub entries_at : List ℕ → List ℕ → List ℕ → Bool
entries_at s = matching (entry_at s)

-- the classes that class a is under, as a set
pub record RowOf (M : Model) (a : ℕ) (row : ClassSet) : Type 0 where
  pub told : (c : ℕ) → c < max_classes → has_class row c ≡ class_under M a c

-- the rows of all numbers below the limit one after the other: those of the first n are made, the others empty
pub record RowsTo (M : Model) (n : ℕ) (rows : List ClassSet) : Type 0 where
  pub long : length rows ≡ max_classes
  pub told : (a c : ℕ) → a < max_classes → c < max_classes → rows_have rows a c ≡ (ltb a n && class_under M a c)

-- byte j of a word, the lowest being byte 0
unfoldable pub word_byte : ℕ → ℕ → ℕ
word_byte x j = x / 2 ^ (8 * j) % 256
