-- The bytes of a type's row, what joining a class's type to it makes of them, and rows one after the other.
-- Assumes nothing.
use Prim.Native.Nat.{ℕ, ◌+◌, ◌≤◌, ◌<◌}
use native.Mathlib.Nat.{eq-or-lt_of_le}
use native.Mathlib.Omega.{arith}
use borrow.Author.Count.{below_none, below_more}
use mathlib.Core.Path.{◌≡◌, refl, sym, ap, ◌∙◌}
use mathlib.Core.Bool.{Bool, true, false, cond, ◌||◌}
use mathlib.Core.Logic.{◌⊎◌, inl, inr}
use mathlib.Core.List.{List, [], ◌∷◌, ◌++◌}
use lib.ListN.{length, get_or, take, drop, set, length-append, length-drop, length-set, get_or-append}
use lib.Seq.{length-take-le, get_or-take, get_or-drop, get_or-append-add, get_or-append_seam}
use Rattle.std.proofs.Common.{get_or-set_same, get_or-set_other, replicate}
use Rattle.std.proofs.lemmas.List.{get_or-replicate}
use Rattle.rules.specs.Bounded.{any}
use Rattle.rules.specs.Model.{Model}
use Rattle.rules.specs.Subclass.{subclass}
use Rattle.rules.specs.Types.{Static, in_type}
use Rattle.rules.specs.Calls.{row_bytes}
use Rattle.rules.specs.Bits.{bit}
use Rattle.typing.specs.Rows.{type_byte, RowOf, joined, Joined, Rows}

-- one class more in a type: it is in the type or under the new class
in_type_snoc : (M : Model) (t : Static) (c k : ℕ) → in_type M (t ++ (c ∷ [])) k ≡ (in_type M t k || subclass M c k)
unfolding in_type any
in_type_snoc M [] c k = one (subclass M c k)
  where
    one : (p : Bool) → (p || false) ≡ p
    one true = refl
    one false = refl
in_type_snoc M (g ∷ t) c k = next (subclass M g k) (in_type_snoc M t c k)
  where
    next : (p : Bool) → any (λ g. subclass M g k) (t ++ (c ∷ [])) ≡ (any (λ g. subclass M g k) t || subclass M c k)
        → (p || any (λ g. subclass M g k) (t ++ (c ∷ []))) ≡ ((p || any (λ g. subclass M g k) t) || subclass M c k)
    next true e = refl
    next false e = e

joined_bit : (p q : Bool) → cond q 1 (bit p) ≡ bit (p || q)
unfolding bit
joined_bit true true = refl
joined_bit true false = refl
joined_bit false true = refl
joined_bit false false = refl

joined_type : (M : Model) (t : Static) (c k : ℕ) → joined M c k (type_byte M t k) ≡ type_byte M (t ++ (c ∷ [])) k
unfolding joined type_byte
joined_type M t c k = joined_bit (in_type M t k) (subclass M c k) ∙ ap bit (sym (in_type_snoc M t c k))

-- the row of the empty type, and what joining a class's type makes of a row
pub row_empty : (M : Model) → RowOf M [] (replicate row_bytes 0)
unfolding type_byte in_type any bit
row_empty M = record { long = refl; byte = λ k h. get_or-replicate row_bytes k 0 0 h }

pub row_joined : (M : Model) (t : Static) (c : ℕ) (old new : List ℕ) → RowOf M t old → Joined M c old new → RowOf M (t ++ (c ∷ [])) new
row_joined M t c old new r n = record { long = n.long ∙ r.long; byte = λ k h. n.byte k h ∙ ap (joined M c k) (r.byte k h) ∙ joined_type M t c k }

-- A row that is joined byte by byte: the bytes before k are joined, and the others are as they were.
pub record Joining (M : Model) (c : ℕ) (old row : List ℕ) (k : ℕ) : Type 0 where
  pub long : length row ≡ length old
  pub done : (i : ℕ) → i < k → get_or row i 0 ≡ joined M c i (get_or old i 0)
  pub left : (i : ℕ) → k ≤ i → get_or row i 0 ≡ get_or old i 0

module _ (M : Model) (c : ℕ) (old : List ℕ) where
  pub joining_none : Joining M c old old 0
  joining_none = record { long = refl; done = below_none _; left = λ i h. refl }

  pub joining_more : (row : List ℕ) (k v : ℕ) → k < length row → v ≡ joined M c k (get_or row k 0) → Joining M c old row k → Joining M c old (set row k v) (k + 1)
  joining_more row k v l e j =
      record {
        long = length-set row k v ∙ j.long;
        done = below_more _ _
            (λ i h. let other : i ≡ k → ⊥ = omega arith in rw (get_or-set_other row k i v 0 other) (j.done i h))
            (rw (get_or-set_same row k v 0 l) (e ∙ ap (joined M c k) (j.left k (omega arith))));
        left = λ i h. let other : i ≡ k → ⊥ = omega arith in rw (get_or-set_other row k i v 0 other) (j.left i (omega arith));
      }

  pub joining_all : (row : List ℕ) (k : ℕ) → row_bytes ≤ k → Joining M c old row k → Joined M c old row
  joining_all row k l j = record { long = j.long; byte = λ i h. j.done i (omega arith) }

-- Rows one after the other.

pub rows_none : (M : Model) → Rows M [] []
rows_none M = record { long = refl; holds = λ i h. absurd (omega (arith, h)) }

module _ (M : Model) (rows : List (List ℕ)) where
  -- a row is put behind those that hold types
  pub rows_push : (types : List Static) (t : Static) (row : List ℕ) → Rows M rows types → RowOf M t row → Rows M (rows ++ (row ∷ [])) (types ++ (t ∷ []))
  rows_push types t row r o =
      record {
        long = rw (length-append, length-append) (omega (arith, r.long));
        holds = λ i h. place i (eq-or-lt_of_le (count i h));
      }
    where
      count : (i : ℕ) → i < length (types ++ (t ∷ [])) → i ≤ length types
      count i h = omega (arith, rw length-append at h)

      place : (i : ℕ) → (i ≡ length types) ⊎ (i < length types) → RowOf M (get_or (types ++ (t ∷ [])) i []) (get_or (rows ++ (row ∷ [])) i [])
      place i (inl e) =
          let last : get_or (rows ++ (row ∷ [])) i [] ≡ row = rw (e, ← r.long) (get_or-append_seam rows row [] []) in
          rw last (rw (e, get_or-append_seam types t [] []) o)
      place i (inr e) = rw (get_or-append types (t ∷ []) [] i e, get_or-append rows (row ∷ []) [] i (omega (arith, r.long))) (r.holds i e)

  -- the rows of the first types, and of the others
  pub rows_first : (xs ys : List Static) (n : ℕ) → Rows M rows (xs ++ ys) → n ≡ length xs → Rows M (take n rows) xs
  rows_first xs ys n r e =
      let whole = length-append xs ys in
      record {
        long = length-take-le n rows (omega (arith, r.long)) ∙ e;
        holds = λ i h. rw (get_or-take n rows i [] (omega arith)) (rw (get_or-append xs ys [] i h) at (r.holds i (omega arith)));
      }

  pub rows_rest : (xs ys : List Static) (n : ℕ) → Rows M rows (xs ++ ys) → n ≡ length ys → Rows M (take n (drop (length xs) rows)) ys
  rows_rest xs ys n r e =
      let whole = length-append xs ys in
      let left = length-drop (length xs) rows in
      record {
        long = length-take-le n (drop (length xs) rows) (omega (arith, r.long)) ∙ e;
        holds = λ i h.
            rw (get_or-take n (drop (length xs) rows) i [] (omega arith), get_or-drop (length xs) rows i [])
            (rw (get_or-append-add xs ys i []) at (r.holds (length xs + i) (omega arith)));
      }
