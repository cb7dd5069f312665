-- Rows of a table of sets: the sets of a place with one word more, the table with one place more, and what a table tells.
-- Assumes nothing.
use Prim.Native.Nat.{ℕ, ◌+◌, ◌*◌, ◌/◌, ◌%◌, ◌<◌}
use native.Mathlib.Decide.{dec_lt}
use native.Mathlib.Omega.{arith}
use mathlib.Core.Path.{◌≡◌, refl, sym, ap, ◌∙◌}
use mathlib.Core.Bool.{Bool, ◌&&◌, and-false}
use mathlib.Core.List.{List}
use lib.Dec.{eqb, ltb}
use lib.ListN.{length, get_or, set, replicate, length-set, length-replicate}
use lib.Seq.{get_or-set_same, get_or-set_other}
use borrow.Author.Count.{below_more}
use borrow.Author.Tests.{ltb-true, lt-ltb}
use Rattle.rules.specs.Layout.{places, max_classes}
use Rattle.rules.specs.Model.{Model, Wellformed, model_of}
use Rattle.rules.specs.Subclass.{subclass}
use Rattle.rules.specs.Scratch.{class_under, entry_at}
use Rattle.rules.specs.Bits.{bit_at, in_set}
use Rattle.rules.proofs.Bits.{bit_zero}
use Rattle.rules.proofs.Scratch.{class_under_lem, absent_lower}
use Rattle.layout.specs.Opened.{Opened}
use Rattle.layout.specs.declared.bundle.Bundle.{Bundle}
use Rattle.layout.proofs.Opened.{counts_of, placed_of}
use Rattle.subclasses.specs.Matrix.{Filled, filled}
use Rattle.subclasses.specs.Places.{InMatrix}
use Rattle.subclasses.specs.Prepared.{Prepared}
use Rattle.method_sets.specs.Sets.{set_words, table_words, row_at, SetAt, WordOf, class_of, method_at, method_of, method_above, column_above, InOrder, Rows, TabledTo, Tabled}
use Rattle.method_sets.proofs.Stored.{zeros}
use Rattle.method_sets.proofs.Words.{masked}

-- The words of a place: none, and one more.
module _ {scratch column : List ℕ} {place : ℕ} where
  pub rows_none : (old : List ℕ) → Rows scratch column place 0 old old
  rows_none old = record { same = refl; before = λ w h. refl; told = λ w h. absurd (omega arith); behind = λ w h. refl }

  pub rows_more : {n : ℕ} {old mid : List ℕ} (bits : ℕ) → Rows scratch column place n old mid → row_at place 0 + n < length old
      → WordOf (column_above scratch column (n / set_words)) (64 * (n % set_words)) bits → Rows scratch column place (n + 1) old (set mid (row_at place 0 + n) bits)
  rows_more {n} {old} {mid} bits r room word =
      let at = row_at place 0 + n in
      record {
        same = length-set mid at bits ∙ r.same;
        before = λ w h. get_or-set_other mid at w bits 0 (λ e. omega arith) ∙ r.before w h;
        told = below_more Told n (λ w h. rw (get_or-set_other mid at (row_at place 0 + w) bits 0 (λ e. omega arith)) (r.told w h))
            (rw (get_or-set_same mid at bits 0 (omega (arith, r.same))) word);
        behind = λ w h. get_or-set_other mid at w bits 0 (λ e. omega arith) ∙ r.behind w (omega arith);
      }
    where
      Told : ℕ → Type 0
      Told w = WordOf (column_above scratch column (w / set_words)) (64 * (w % set_words)) (get_or (set mid (row_at place 0 + n) bits) (row_at place 0 + w) 0)

-- a class is that of the method at a position of the order
abbrev pub OfMethod : Bool → Model → List ℕ → ℕ → ℕ → ℕ → Type 0
OfMethod stated M order place i k = (k ≡ class_of stated M (method_at order i) place) × (k < M.classes)

-- A column of an opened bundle's methods.
module _ {b : List ℕ} {t : Bundle} {stated : Bool} {order column : List ℕ} {place : ℕ} (o : Opened b t) (q : InOrder stated (model_of b) order place column) where
  -- its numbers are classes, which the matrix has
  pub column_classes : InMatrix column
  column_classes i h = omega (arith, q.long, (q.classes i (omega (arith, q.long))).1, (counts_of o).classes, (placed_of o).classes_limit)

  -- by the entries of the bundle's matrix the classes above a number are those that it is under as a class
  column_above_lem : {s : List ℕ} → Filled (model_of b) s → (k i : ℕ) → k < max_classes
      → column_above s column k i ≡ method_above stated (model_of b) order place k i
  unfolding column_above method_above
  column_above_lem {s} (filled long entries) k i h =
      let M = model_of b in
      rw q.long (masked (ltb i M.methods) (entry_at s k (get_or column i 0)) (class_under M k (class_of stated M (method_at order i) place))
      (λ e.
      let (same, bound) = q.classes i (ltb-true i M.methods e) in
      entries k (get_or column i 0) h (omega (arith, bound, (counts_of o).classes, (placed_of o).classes_limit)) ∙ ap (class_under M k) same))

-- The sets of no place, and of one more: behind the rows of the classes the words are still 0.
pub tabled_none : (stated : Bool) (M : Model) (order : List ℕ) → TabledTo stated M order (replicate table_words 0) 0
tabled_none stated M order =
    record { long = length-replicate {A = ℕ} table_words 0; told = λ place k h. absurd (omega arith); rest = λ w h. zeros table_words w }

pub tabled_more : {b : List ℕ} {t : Bundle} {stated : Bool} {order column s old new : List ℕ} {place : ℕ} → Prepared b t s
    → InOrder stated (model_of b) order place column → TabledTo stated (model_of b) order old place
    → Rows s column place (set_words * t.classes) old new → TabledTo stated (model_of b) order new (place + 1)
unfolding in_set method_above
tabled_more {b} {t} {stated} {order} {column} {s} {old} {new} {place} p q low r =
    record {
      long = r.same ∙ low.long;
      told = λ n k h. below_more Told place before (λ k c. here k c (dec_lt k t.classes)) n h k;
      rest = λ w h. r.behind w (omega (arith, (placed_of p.opened).classes_limit)) ∙ low.rest w (omega arith);
    }
  where
    Told : ℕ → Type 0
    Told n = (k : ℕ) → k < max_classes → SetAt new (row_at n k) (method_above stated (model_of b) order n k)

    before : (n : ℕ) → n < place → Told n
    before n h k c i m = rw (r.before (row_at n k + i / 64) (omega arith)) (low.told n k h c i m)

    here : (k : ℕ) → k < max_classes → Dec (k < t.classes) → SetAt new (row_at place k) (method_above stated (model_of b) order place k)
    here k c (yes l) i m =
        let w = set_words * k + i / 64 in
        let at : row_at place 0 + w ≡ row_at place k + i / 64 = omega arith in
        let class : w / set_words ≡ k = omega arith in
        let position : 64 * (w % set_words) + i % 64 ≡ i = omega arith in
        rw (at, class, position) at (r.told w (omega arith) (i % 64) (omega arith)) ∙ column_above_lem p.opened q p.filled k i c
    here k c (no l) i m =
        let w = row_at place k + i / 64 in
        let M = model_of b in
        let none = absent_lower M k (class_of stated M (method_at order i) place) (omega (arith, (counts_of p.opened).classes)) in
        ap (λ (x : ℕ). bit_at x (i % 64)) (r.behind w (omega arith) ∙ low.rest w (omega arith))
        ∙ bit_zero (i % 64)
        ∙ sym (ap (λ (u : Bool). ltb i M.methods && u) none ∙ and-false (ltb i M.methods))

-- What a table tells of a class and a method.
pub told_method : {M : Model} → Wellformed M → {stated : Bool} {order table : List ℕ} → Tabled stated M order table → (place k i : ℕ) → place < places → k < M.classes
    → i < M.methods → in_set table (row_at place k) i ≡ subclass M k (class_of stated M (method_at order i) place)
unfolding method_above
told_method {M} w t place k i h c m =
    t.told place k h (omega (arith, w.classes_limit)) i (omega (arith, w.methods_limit)) ∙ rw (lt-ltb i M.methods m) (class_under_lem M w k _ c)

-- and the set of a function's methods of a method
pub of_function : (M : Model) (order : List ℕ) (f i : ℕ) → i < M.methods → method_of M order f i ≡ eqb (M.function (method_at order i)) f
unfolding method_of
of_function M order f i h = rw (lt-ltb i M.methods h)
