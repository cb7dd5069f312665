-- What the matrix of a prepared call answers: one class under another, and tuples of classes place by place.
-- Assumes nothing.
use Prim.Native.Nat.{ℕ, ◌≤◌, ◌<◌}
use native.Mathlib.Omega.{arith}
use mathlib.Core.Path.{◌≡◌, refl, sym, ap, ap₂, ◌∙◌}
use mathlib.Core.Bool.{Bool, true, ◌&&◌}
use mathlib.Core.List.{List, [], ◌∷◌}
use lib.Dec.{eqb, ltb}
use lib.ListN.{length, get_or}
use borrow.Author.Tests.{ltb-true}
use Rattle.rules.specs.Bounded.{every, matching}
use Rattle.rules.specs.Layout.{places, max_classes}
use Rattle.rules.specs.Model.{Model, model_of, present}
use Rattle.rules.specs.Subclass.{subclass, under, ancestry_by, ancestry}
use Rattle.rules.specs.Scratch.{scratch_bytes, class_under, entry_at}
use Rattle.rules.proofs.Lists.{every_place, and_left, and_right}
use Rattle.rules.proofs.Scratch.{class_under_lem}
use Rattle.layout.specs.Opened.{Opened}
use Rattle.layout.specs.Arity.{OfArity}
use Rattle.layout.specs.declared.bundle.Bundle.{Bundle}
use Rattle.layout.proofs.Opened.{wellformed_of, counts_of}
use Rattle.subclasses.specs.Matrix.{Filled, filled, ancestry_at, entries_at}
use Rattle.subclasses.specs.Prepared.{Prepared}
use Rattle.subclasses.specs.Places.{Arguments, InMatrix, Comparable}

pub filled_long : {M : Model} {s : List ℕ} → Filled M s → scratch_bytes ≤ length s
filled_long (filled long entries) = long

filled_entry : {M : Model} {s : List ℕ} → Filled M s → (a c : ℕ) → a < max_classes → c < max_classes → entry_at s a c ≡ class_under M a c
filled_entry (filled long entries) = entries

-- each of a list of classes is one
pub class_below : (M : Model) (xs : List ℕ) → present M xs ≡ true → (i : ℕ) → i < length xs → get_or xs i 0 < M.classes
unfolding present
class_below M xs e i l = ltb-true (get_or xs i 0) M.classes (every_place (λ c. ltb c M.classes) xs 0 e i l)

present_cons : (M : Model) (x : ℕ) (xs : List ℕ) → present M (x ∷ xs) ≡ true → (x < M.classes) × (present M xs ≡ true)
unfolding present every
present_cons M x xs e =
    (ltb-true x M.classes (and_left (ltb x M.classes) (present M xs) e), and_right (ltb x M.classes) (present M xs) e)

module _ {b : List ℕ} {t : Bundle} (o : Opened b t) where
  pub in_matrix : (xs : List ℕ) → present (model_of b) xs ≡ true → InMatrix xs
  in_matrix xs e i l = omega (arith, class_below (model_of b) xs e i l, (wellformed_of o).classes_limit)

  -- the arguments of a send are no more than the layout has places
  pub arguments_places : {f : ℕ} {args : List ℕ} → Arguments (model_of b) f args → length args ≤ places
  arguments_places {f} g = omega (arith, g.arity, (wellformed_of o).arity_limit f g.function)

  -- a method's tuples are as long as its function has arguments
  module _ {n m : ℕ} (h : OfArity (model_of b) n m) where
    pub specialisers_long : length ((model_of b).specialisers m) ≡ n
    specialisers_long = (wellformed_of o).specialiser_places m h.bound ∙ sym h.arity

    pub specialisers_classes : present (model_of b) ((model_of b).specialisers m) ≡ true
    specialisers_classes = (wellformed_of o).specialisers_present m h.bound

    pub declared_long : length ((model_of b).declared m) ≡ n
    declared_long = (wellformed_of o).declared_places m h.bound ∙ sym h.arity

    pub declared_present : present (model_of b) ((model_of b).declared m) ≡ true
    declared_present = (wellformed_of o).declared_present m h.bound

module _ {b : List ℕ} {t : Bundle} {s : List ℕ} (p : Prepared b t s) where
  -- what `under` requires of two classes of the bundle
  pub asked : (a c : ℕ) → a < t.classes → c < t.classes → (scratch_bytes ≤ length s) × ((a < max_classes) × (c < max_classes))
  asked a c h k =
      let counts = counts_of p.opened in
      let limit = (wellformed_of p.opened).classes_limit in
      (filled_long p.filled, (omega arith, omega arith))

  -- the entry of a class says whether it is under another, also of a number below the limit that is no class
  pub entry_subclass : (a c : ℕ) → a < (model_of b).classes → c < max_classes → entry_at s a c ≡ subclass (model_of b) a c
  entry_subclass a c h k =
      let w = wellformed_of p.opened in
      filled_entry p.filled a c (omega (arith, w.classes_limit)) k ∙ class_under_lem (model_of b) w a c h

  pub class_entry : (a c : ℕ) → a < t.classes → c < t.classes → entry_at s a c ≡ subclass (model_of b) a c
  class_entry a c h k =
      let counts = counts_of p.opened in
      let limit = (wellformed_of p.opened).classes_limit in
      entry_subclass a c (omega arith) (omega arith)

  -- and how the one stands to the other
  pub ancestry_entry : (a c : ℕ) → a < t.classes → c < t.classes → ancestry_at s a c ≡ ancestry (model_of b) a c
  unfolding ancestry_at ancestry
  ancestry_entry a c h k = ap (λ (u : Bool). ancestry_by u (eqb a c)) (class_entry a c h k)

  -- two tuples of classes can be compared, and their entries say whether the one is under the other place by place
  module _ {xs ys : List ℕ} (h : present (model_of b) xs ≡ true) (k : present (model_of b) ys ≡ true) where
    pub comparable : length xs ≡ length ys → Comparable s xs ys
    comparable q = record { long = filled_long p.filled; even = q; lower = in_matrix p.opened xs h; upper = in_matrix p.opened ys k }

  pub entries_under : (xs ys : List ℕ) → present (model_of b) xs ≡ true → present (model_of b) ys ≡ true → entries_at s xs ys ≡ under (model_of b) xs ys
  unfolding entries_at under matching
  entries_under [] [] h k = refl
  entries_under [] (y ∷ ys) h k = refl
  entries_under (x ∷ xs) [] h k = refl
  entries_under (x ∷ xs) (y ∷ ys) h k =
      let M = model_of b in
      let u = present_cons M x xs h in
      let v = present_cons M y ys k in
      ap₂ ◌&&◌ (entry_subclass x y u.0 (omega (arith, v.0, (wellformed_of p.opened).classes_limit))) (entries_under xs ys u.1 v.1)
