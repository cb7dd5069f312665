-- The lists of parents of a bundle whose classes keep their own rules: each lies within the bundle, as long as its record says, and has classes of the bundle.
-- Assumes nothing.
use Prim.Native.Nat.{ℕ, ◌+◌, ◌≤◌, ◌<◌}
use native.Mathlib.Omega.{arith}
use mathlib.Core.Path.{◌≡◌, refl, sym}
use mathlib.Core.Bool.{true}
use mathlib.Core.List.{List, [], ◌∷◌}
use lib.Dec.{ltb}
use lib.ListN.{length, get_or}
use borrow.Author.Tests.{ltb-true}
use Rattle.rules.specs.Bounded.{every}
use Rattle.rules.specs.Bytes.{byte}
use Rattle.rules.specs.Layout.{offset, parent_section, list_offset, list_length, parents_of, sequence_rule, extent, class_count, rises_above, rises}
use Rattle.rules.specs.Cycles.{listed_rule}
use Rattle.rules.specs.Model.{model_of}
use Rattle.rules.proofs.Lists.{and_left, and_right, every_place}
use Rattle.rules.proofs.LowerParents.{class_listed}
use Rattle.rules.proofs.Places.{part_at, part_length, sequence_fits}
use Rattle.layout.specs.Tables.{Placed}
use Rattle.layout.specs.Listed.{Listed, listed}
use Rattle.layout.specs.Opened.{Opened}
use Rattle.layout.specs.declared.bundle.Bundle.{Bundle}
use Rattle.layout.proofs.Opened.{rules_of, placed_of}

above_short : (c x : ℕ) (ys : List ℕ) → rises_above x ys ≡ true → every (λ p. ltb p c) ys ≡ true → x < c → x + length ys < c
unfolding rises_above every
above_short c x [] e l h = omega arith
above_short c x (y ∷ ys) e l h =
    let step = ltb-true x y (and_left (ltb x y) (rises_above y ys) e) in
    let lower = ltb-true y c (and_left (ltb y c) (every (λ p. ltb p c) ys) l) in
    omega (arith, above_short c y ys (and_right (ltb x y) (rises_above y ys) e) (and_right (ltb y c) (every (λ p. ltb p c) ys) l) lower)

-- a list of numbers below c that rises strictly has at most c of them
pub rising_short : (c : ℕ) (xs : List ℕ) → rises xs ≡ true → every (λ p. ltb p c) xs ≡ true → length xs ≤ c
unfolding rises every
rising_short c [] e l = omega arith
rising_short c (x ∷ xs) e l =
    let lower = ltb-true x c (and_left (ltb x c) (every (λ p. ltb p c) xs) l) in
    omega (arith, above_short c x xs e (and_right (ltb x c) (every (λ p. ltb p c) xs) l) lower)

listed_sequence : (b : List ℕ) (c : ℕ) → listed_rule b c ≡ true → sequence_rule (list_offset b) (list_length b) (class_count b) (extent b parent_section) c ≡ true
unfolding listed_rule
listed_sequence b c e = search (and_left, and_right)

-- an opened bundle is one
pub listed_of : {b : List ℕ} {t : Bundle} → Opened b t → Listed b t
listed_of o = listed (placed_of o) (class_listed _ (rules_of o).of_class)

pub placed_listed : {b : List ℕ} {t : Bundle} → Listed b t → Placed b t
placed_listed (listed p kept) = p

-- the model has these lists
pub model_parents : (b : List ℕ) → (model_of b).parents ≡ parents_of b
unfolding model_of
model_parents b = refl

module _ {b : List ℕ} {t : Bundle} (l : Listed b t) where
  pub class_kept : (c : ℕ) → c < t.classes → listed_rule b c ≡ true
  class_kept c h = go l
    where
      go : Listed b t → listed_rule b c ≡ true
      go (listed p kept) = kept c (omega (arith, p.tables.classes))

  pub parents_classes : (c : ℕ) → c < t.classes → every (λ p. ltb p t.classes) (parents_of b c) ≡ true
  unfolding listed_rule
  parents_classes c h = let rule = class_kept c h in rw (placed_listed l).tables.classes (search (and_left, and_right))

  list_in : (c : ℕ) → c < t.classes → offset b parent_section + list_offset b c + list_length b c ≤ length b
  list_in c h =
      let p = placed_listed l in
      let f = sequence_fits _ _ _ _ _ _ (listed_sequence b c (class_kept c h)) in
      omega (arith, f, p.tables.parent_at, p.tables.parent_len, p.parent_end)

  pub parents_counted : (c : ℕ) → c < t.classes → length (parents_of b c) ≡ list_length b c
  unfolding parents_of
  parents_counted c h = part_length b (offset b parent_section + list_offset b c) (list_length b c) (list_in c h)

  -- a list that rises strictly has no more parents than there are classes
  pub parents_few : (c : ℕ) → c < t.classes → length (parents_of b c) ≤ t.classes
  unfolding listed_rule
  parents_few c h = let rule = class_kept c h in rising_short t.classes (parents_of b c) (search (and_left, and_right)) (parents_classes c h)

  -- parent i of class c stands within the bundle, and is a class
  module _ (c i : ℕ) (h : c < t.classes) (k : i < length (parents_of b c)) where
    pub parent_within : t.parent_at + list_offset b c + i < length b
    parent_within = omega (arith, parents_counted c h, list_in c h, (placed_listed l).tables.parent_at)

    pub parent_read : let x = byte b (t.parent_at + list_offset b c + i) in (x ≡ get_or (parents_of b c) i 0) × (x < t.classes)
    unfolding parents_of
    parent_read =
        let same : byte b (offset b parent_section + list_offset b c + i) ≡ get_or (parents_of b c) i 0 =
        sym (part_at b (offset b parent_section + list_offset b c) (list_length b c) i (omega (arith, parents_counted c h))) in
        let present = every_place (λ p. ltb p t.classes) (parents_of b c) 0 (parents_classes c h) i k in
        rw (placed_listed l).tables.parent_at (same, omega (arith, same, ltb-true (get_or (parents_of b c) i 0) t.classes present))
