-- The rows of the subclass matrix as sets of classes: how they are made from one another, and their bytes.
-- Assumes nothing.
use Prim.Native.Nat.{ℕ, ◌+◌, ◌-◌, ◌*◌, ◌/◌, ◌%◌, ◌^◌, ◌≤◌, ◌<◌}
use native.Mathlib.Omega.{arith}
use mathlib.Core.Path.{◌≡◌, sym, ap, ap₂, ◌∙◌}
use mathlib.Core.Bool.{Bool, true, false, ◌&&◌, ◌||◌, or-false, or_assoc}
use mathlib.Core.Logic.{◌⊎◌, inl, inr}
use mathlib.Core.List.{List}
use lib.Dec.{eqb, ltb}
use lib.ListN.{length, get_or, take, set, replicate, length-set, get_or-replicate}
use lib.Seq.{take_all, get_or-set_same, get_or-set_other}
use borrow.Author.Tests.{lt-ltb, le-ltb, ltb-true, ltb-false, eqb-true, eqb-false}
use Rattle.rules.specs.Bounded.{any}
use Rattle.rules.specs.Layout.{max_classes}
use Rattle.rules.specs.Model.{Model, Wellformed}
use Rattle.rules.specs.Bits.{bit_at, in_set}
use Rattle.inheritance.specs.declared.class_set.ClassSet.{ClassSet}
use Rattle.inheritance.specs.Rows.{has_class, no_class, rows_have}
use Rattle.inheritance.proofs.Words.{empty_set}
use borrow.Rule.Slice.PartMut.{mid_of, put_mid}
use Rattle.rules.specs.Calls.{overwrite}
use Rattle.rules.proofs.Overwrite.{overwrite_lent}
use Rattle.rules.specs.Scratch.{matrix_row, class_under, matrix_byte}
use Rattle.rules.proofs.Lists.{test, agree, any_take}
use Rattle.rules.proofs.Bits.{bit_shift, byte_of_bits, byte_agree}
use Rattle.rules.proofs.Scratch.{absent_lower, class_parents}
use Rattle.subclasses.specs.Matrix.{RowOf, RowsTo, word_byte}

-- The class itself, and what its first i parents are under: from the class alone, by one parent more, to the whole row.
pub record Joined (M : Model) (a i : ℕ) (row : ClassSet) : Type 0 where
  pub within : i ≤ length (M.parents a)
  pub told : (c : ℕ) → c < max_classes → has_class row c ≡ (eqb a c || any (λ p. class_under M p c) (take i (M.parents a)))

module _ (M : Model) (a : ℕ) where
  pub joined_none : (row : ClassSet) → ((c : ℕ) → c < max_classes → has_class row c ≡ eqb a c) → Joined M a 0 row
  unfolding any
  joined_none row own = record { within = omega arith; told = λ c h. own c h ∙ sym (or-false (eqb a c)) }

  pub joined_more : (rows : List ClassSet) (row new : ClassSet) (i p : ℕ) → RowsTo M a rows → Joined M a i row → i < length (M.parents a) → p ≡ get_or (M.parents a) i 0 → p < a → a < max_classes
      → ((c : ℕ) → c < max_classes → has_class new c ≡ (has_class row c || rows_have rows p c)) → Joined M a (i + 1) new
  joined_more rows row new i p f g h e l k both = record { within = omega arith; told = told }
    where
      told : (c : ℕ) → c < max_classes → has_class new c ≡ (eqb a c || any (λ p. class_under M p c) (take (i + 1) (M.parents a)))
      told c m =
          both c m
          ∙ ap₂ ◌||◌ (g.told c m) (f.told p c (omega arith) m ∙ rw (lt-ltb p a l, e))
          ∙ or_assoc (eqb a c) (any (λ p. class_under M p c) (take i (M.parents a))) (class_under M (get_or (M.parents a) i 0) c)
          ∙ ap (λ (t : Bool). eqb a c || t) (sym (any_take (λ p. class_under M p c) (M.parents a) 0 i h))

  pub joined_all : (row : ClassSet) (i : ℕ) → Wellformed M → a < M.classes → Joined M a i row → length (M.parents a) ≤ i → RowOf M a row
  joined_all row i w h g l =
      record { told = λ c m. g.told c m ∙ rw (take_all i (M.parents a) l) (sym (class_parents M w a c h)) }

-- no row is made
pub rows_none : (M : Model) (rows : List ClassSet) → rows ≡ replicate max_classes (record { words = replicate 2 0 }) → RowsTo M 0 rows
rows_none M rows e =
    record {
      long = ap length e;
      told = λ a c h k. rw (e, get_or-replicate {A = ClassSet} max_classes a (record { words = replicate 2 0 }) no_class h, le-ltb a 0 (omega arith)) (empty_set c k);
    }

-- one row more
pub rows_more : (M : Model) (rows : List ClassSet) (row : ClassSet) (a : ℕ) → RowsTo M a rows → RowOf M a row → a < max_classes → RowsTo M (a + 1) (set rows a row)
rows_more M rows row a f g h = record { long = length-set rows a row ∙ f.long; told = λ x c p q. go x c p q (test (eqb x a)) }
  where
    go : (x c : ℕ) → x < max_classes → c < max_classes → (eqb x a ≡ true) ⊎ (eqb x a ≡ false) → rows_have (set rows a row) x c ≡ (ltb x (a + 1) && class_under M x c)
    go x c p q (inl e) = rw (eqb-true x a e, lt-ltb a (a + 1) (omega arith), get_or-set_same rows a row no_class (omega (arith, f.long))) (g.told c q)
    go x c p q (inr e) =
        let s = eqb-false x a e in
        rw (get_or-set_other rows a x row no_class s)
        (f.told x c p q ∙ ap (λ (t : Bool). t && class_under M x c) (agree (ltb x a) (ltb x (a + 1)) (λ r. lt-ltb x (a + 1) (omega (arith, ltb-true x a r))) (λ r. lt-ltb x a (omega (arith, ltb-true x (a + 1) r, s)))))

-- where the rows of all classes are made, the bytes of their words are those of the matrix
module _ (M : Model) (rows : List ClassSet) (f : RowsTo M M.classes rows) where
  rows_told : (a c : ℕ) → a < max_classes → c < max_classes → rows_have rows a c ≡ class_under M a c
  rows_told a c h k = f.told a c h k ∙ go (test (ltb a M.classes))
    where
      go : (ltb a M.classes ≡ true) ⊎ (ltb a M.classes ≡ false) → (ltb a M.classes && class_under M a c) ≡ class_under M a c
      go (inl e) = rw e
      go (inr e) = rw e (sym (absent_lower M a c (ltb-false a M.classes e)))

  pub rows_bytes : (a w j : ℕ) → a < max_classes → w < 2 → j < 8 → word_byte (get_or (get_or rows a no_class).words w 0) j ≡ matrix_byte M (16 * a + 8 * w + j)
  unfolding word_byte matrix_byte in_set
  rows_bytes a w j h k l =
      byte_of_bits (word / 2 ^ (8 * j))
      ∙ byte_agree (bit_at (word / 2 ^ (8 * j))) (λ i. class_under M ((16 * a + 8 * w + j) / matrix_row) (8 * ((16 * a + 8 * w + j) % matrix_row) + i)) told
    where
      word : ℕ
      word = get_or (get_or rows a no_class).words w 0

      told : (i : ℕ) → i < 8 → bit_at (word / 2 ^ (8 * j)) i ≡ class_under M ((16 * a + 8 * w + j) / matrix_row) (8 * ((16 * a + 8 * w + j) % matrix_row) + i)
      told i m =
          let c : ℕ = 8 * ((16 * a + 8 * w + j) % matrix_row) + i in
          let row : (16 * a + 8 * w + j) / matrix_row ≡ a = omega arith in
          let place : 0 + c / 64 ≡ w = omega arith in
          let digit : c % 64 ≡ 8 * j + i = omega arith in
          bit_shift word (8 * j) i
          ∙ ap₂ (λ (k d : ℕ). bit_at (get_or (get_or rows a no_class).words k 0) d) (sym place) (sym digit)
          ∙ rows_told a c h (omega arith)
          ∙ ap (λ (x : ℕ). class_under M x c) (sym row)

  -- the two words of a row, written behind the rows before it
  module _ (a : ℕ) (h : a < max_classes) (old new low high : List ℕ) (written : new ≡ overwrite (16 * a) (matrix_byte M) old)
      (e : low ≡ overwrite 8 (word_byte (get_or (get_or rows a no_class).words 0 0)) (mid_of (16 * a) (length new - 16 * a) new)) where
    abbrev between : List ℕ
    between = put_mid (16 * a) (length new - 16 * a) new low

    half : between ≡ overwrite (16 * a + 8) (matrix_byte M) old
    half = overwrite_lent (16 * a) 8 (matrix_byte M) (word_byte (get_or (get_or rows a no_class).words 0 0)) old new low written (λ j l. let first : 16 * a + 8 * 0 + j ≡ 16 * a + j = omega arith in rw first at (rows_bytes a 0 j h (omega arith) l)) e

    pub row_written : high ≡ overwrite 8 (word_byte (get_or (get_or rows a no_class).words 1 0)) (mid_of (16 * a + 8) (length between - (16 * a + 8)) between)
        → put_mid (16 * a + 8) (length between - (16 * a + 8)) between high ≡ overwrite (16 * (a + 1)) (matrix_byte M) old
    row_written f =
        let next : 16 * a + 8 + 8 ≡ 16 * (a + 1) = omega arith in
        overwrite_lent (16 * a + 8) 8 (matrix_byte M) (word_byte (get_or (get_or rows a no_class).words 1 0)) old between high half (λ j l. rows_bytes a 1 j h (omega arith) l) f
        ∙ ap (λ (n : ℕ). overwrite n (matrix_byte M) old) next
