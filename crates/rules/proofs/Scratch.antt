-- What the scratch says once the matrix is written into it: an entry for each two numbers below the limit on classes, which tells whether both are
-- classes and the one is under the other.
-- Assumes nothing.
use Prim.Native.Nat.{ℕ, ◌+◌, ◌*◌, ◌/◌, ◌%◌, ◌≤◌, ◌<◌}
use native.Mathlib.Omega.{arith}
use mathlib.Core.Path.{◌≡◌, refl, sym, ap, ap₂, ◌∙◌}
use mathlib.Core.Bool.{Bool, true, false, cond, ◌&&◌, ◌||◌}
use mathlib.Core.Logic.{◌⊎◌, inl, inr}
use mathlib.Core.List.{List}
use lib.Dec.{eqb, ltb, leb}
use lib.ListN.{length, get_or}
use borrow.Author.Tests.{lt-ltb, le-ltb, ltb-true, ltb-false, le-leb}
use Rattle.rules.specs.Bounded.{any}
use Rattle.rules.specs.Layout.{max_classes, Answer, gives, refuses, opening}
use Rattle.rules.specs.Model.{Model, Wellformed, model_of}
use Rattle.rules.specs.Subclass.{Under, subclass}
use Rattle.rules.specs.Bits.{bit_at}
use Rattle.rules.specs.Scratch.{scratch_bytes, matrix_row, class_under, entry_at, matrix_byte}
use Rattle.rules.specs.Calls.{with_scratch, overwrite, scratch_on, scratch_after}
use Rattle.rules.proofs.Lists.{test, and_left, and_right, any_agree}
use Rattle.rules.proofs.Wellformed.{opened_wellformed}
use Rattle.rules.proofs.Subclass.{subclass_under, under_subclass, subclass_not_above, parent_lower, subclass_parents}
use Rattle.rules.proofs.Bits.{byte_bit}
use Rattle.rules.proofs.Overwrite.{overwrite_at, overwrite_later}

-- The only law that goes by how the matrix is stored.
pub matrix_entry : (M : Model) (old : List ℕ) (a c : ℕ) → a < max_classes → c < max_classes
    → entry_at (overwrite scratch_bytes (matrix_byte M) old) a c ≡ class_under M a c
unfolding entry_at matrix_byte
matrix_entry M old a c h k =
    let at : ℕ = matrix_row * a + c / 8 in
    let row : at / matrix_row ≡ a = omega arith in
    let column : 8 * (at % matrix_row) + c % 8 ≡ c = omega arith in
    ap (λ (x : ℕ). bit_at x (c % 8)) (overwrite_at scratch_bytes (matrix_byte M) old at (omega arith))
    ∙ byte_bit (λ i. class_under M (at / matrix_row) (8 * (at % matrix_row) + i)) (c % 8) (omega arith)
    ∙ ap₂ (class_under M) row column

-- of a number that is no class nothing is told
pub absent_lower : (M : Model) (a c : ℕ) → M.classes ≤ a → class_under M a c ≡ false
unfolding class_under
absent_lower M a c h = rw (le-ltb a M.classes h)

module _ (M : Model) (w : Wellformed M) where
  -- of a class the subclass test: no class is under a number that is none
  pub class_under_lem : (a c : ℕ) → a < M.classes → class_under M a c ≡ subclass M a c
  unfolding class_under
  class_under_lem a c h = rw (lt-ltb a M.classes h) (go (test (ltb c M.classes)) (test (subclass M a c)))
    where
      go : (ltb c M.classes ≡ true) ⊎ (ltb c M.classes ≡ false) → (subclass M a c ≡ true) ⊎ (subclass M a c ≡ false)
          → (ltb c M.classes && subclass M a c) ≡ subclass M a c
      go (inl e) s = rw e
      go (inr e) (inl s) = absurd (omega (arith, ltb-false c M.classes e, subclass_not_above M w a c h s))
      go (inr e) (inr s) = rw (e, s)

  -- which it is by itself, and by what its parents are under
  pub class_parents : (a c : ℕ) → a < M.classes → class_under M a c ≡ (eqb a c || any (λ p. class_under M p c) (M.parents a))
  class_parents a c h =
      class_under_lem a c h
      ∙ subclass_parents M w a c h
      ∙ ap (λ (t : Bool). eqb a c || t)
      (any_agree (λ p. subclass M p c) (λ p. class_under M p c) (M.parents a) (λ p m. sym (class_under_lem p c (omega (arith, parent_lower M w h m)))))

module _ (b scratch counts : List ℕ) (opened : opening b ≡ gives counts) (long : scratch_bytes ≤ length scratch) (a c : ℕ)
    (h : a < max_classes) (k : c < max_classes) where
  -- after a call the entry of class a and class c says whether a is under c, and is empty where one of them is absent
  pub scratch_entry : entry_at (scratch_after b scratch) a c ≡ class_under (model_of b) a c
  unfolding scratch_after scratch_on
  scratch_entry = rw (opened, le-leb scratch_bytes (length scratch) long) (matrix_entry (model_of b) scratch a c h k)

  -- the same by the relation, both ways
  pub entry_under : entry_at (scratch_after b scratch) a c ≡ true → (a < (model_of b).classes) × Under (model_of b) a c
  unfolding class_under
  entry_under e =
      let M = model_of b in
      let p = ltb a M.classes in
      let q = ltb c M.classes in
      let u : (p && q && subclass M a c) ≡ true = sym scratch_entry ∙ e in
      (ltb-true a M.classes (and_left p q (and_left (p && q) (subclass M a c) u)), subclass_under M a c (and_right (p && q) (subclass M a c) u))

  pub under_entry : a < (model_of b).classes → Under (model_of b) a c → entry_at (scratch_after b scratch) a c ≡ true
  under_entry p u =
      let w = opened_wellformed b counts opened in
      scratch_entry ∙ class_under_lem (model_of b) w a c p ∙ under_subclass (model_of b) w a c p u

-- the bytes behind the matrix stay, whatever the bundle and however long the scratch
pub scratch_later : (b scratch : List ℕ) (i : ℕ) → get_or (scratch_after b scratch) (scratch_bytes + i) 0 ≡ get_or scratch (scratch_bytes + i) 0
unfolding scratch_after scratch_on
scratch_later b scratch i = go (opening b)
  where
    lent : (t : Bool) → get_or (cond t (overwrite scratch_bytes (matrix_byte (model_of b)) scratch) scratch) (scratch_bytes + i) 0 ≡ get_or scratch (scratch_bytes + i) 0
    lent true = overwrite_later scratch_bytes (matrix_byte (model_of b)) scratch i
    lent false = refl

    go : (r : Answer (List ℕ)) → get_or (scratch_on r (model_of b) scratch) (scratch_bytes + i) 0 ≡ get_or scratch (scratch_bytes + i) 0
    go (gives counts) = lent (leb scratch_bytes (length scratch))
    go (refuses number values) = refl

-- a scratch that is long enough plays no further part in an answer
pub lengths_alike : {A : Type 0} (b : List ℕ) (n m : ℕ) (answer : Model → Answer A) → scratch_bytes ≤ n → scratch_bytes ≤ m → with_scratch b n answer ≡ with_scratch b m answer
unfolding with_scratch
lengths_alike b n m answer h k = rw (le-leb scratch_bytes n h, le-leb scratch_bytes m k)
