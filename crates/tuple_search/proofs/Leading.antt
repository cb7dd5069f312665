-- What the tables of sets say of the methods left: which classes none of them tells apart, and which method leads them.
-- Assumes nothing.
use Prim.Native.Nat.{ℕ, ◌≤◌, ◌<◌}
use native.Mathlib.Nat.{le_of_eq}
use native.Mathlib.Omega.{arith}
use mathlib.Core.Path.{◌≡◌, refl, sym, ap, ap₂, subst, ◌∙◌}
use mathlib.Core.Bool.{Bool, true, false, ◌&&◌, beq}
use mathlib.Core.List.{List, Memᴰ}
use lib.Dec.{eqb}
use lib.ListN.{length, get_or, take}
use lib.Seq.{take_all, take-length}
use borrow.Author.Tests.{eqb-true}
use Rattle.std.specs.Prelude.{Option, Some, None, IfSome}
use Rattle.rules.specs.Bounded.{upto}
use Rattle.rules.specs.Layout.{places}
use Rattle.rules.specs.Model.{Model, Wellformed}
use Rattle.rules.specs.Subclass.{subclass, under}
use Rattle.rules.specs.Lookup.{found, applies, left, applicable_so_far, as_specific, lookup}
use Rattle.rules.specs.Alike.{above_alike, alike_at}
use Rattle.rules.specs.Bits.{in_set}
use Rattle.rules.proofs.Lists.{and_left, and_right, every_from, keep_mem, upto_below, matching_from}
use Rattle.rules.proofs.Lookup.{Candidate, leader_lookup, candidate_left}
use Rattle.subclasses.proofs.Asked.{class_below}
use Rattle.method_sets.specs.Sets.{row_at, SetAt, method_at, SameWithin, class_of, Ordered, Tabled, Member}
use Rattle.method_sets.proofs.Rows.{told_method}
use Rattle.tuple_search.specs.declared.question.Question.{Question}
use Rattle.tuple_search.specs.Leads.{LedBy, HandedDown}
use Rattle.tuple_search.specs.Questions.{function_of}
use Rattle.tuple_search.specs.Search.{Filling}

-- equal Bools pass the test of equality
same_test : (x y : Bool) → x ≡ y → beq x y ≡ true
same_test true y e = rw (sym e)
same_test false y e = rw (sym e)

-- a table's answers for a method of the order
told_of : {M : Model} → Wellformed M → {stated : Bool} {order table : List ℕ} → Tabled stated M order table → (p k i m : ℕ) → p < places → k < M.classes → i < M.methods
    → method_at order i ≡ m → in_set table (row_at p k) i ≡ subclass M k (class_of stated M m p)
told_of {M} w {stated} table p k i m h l q e = told_method w table p k i h l q ∙ ap (λ (x : ℕ). subclass M k (class_of stated M x p)) e

-- the classes of a method's places that a table goes by
unfoldable pub classes_by : Bool → Model → ℕ → List ℕ
classes_by true M = M.declared
classes_by false M = M.specialisers

class_by : (stated : Bool) (M : Model) (m place : ℕ) → class_of stated M m place ≡ get_or (classes_by stated M m) place 0
unfolding class_of classes_by
class_by true M m place = refl
class_by false M m place = refl

module _ {M : Model} {q : Question} {place : ℕ} {chosen order set : List ℕ} (d : Ordered M order) (g : Filling M q place chosen order set) where
  -- each method left is one of the set
  left_member : (m : ℕ) → m < M.methods → left M (function_of M q) (take place chosen) m ≡ true → Member M order set m
  left_member m h e = let (i, l, u) = d.positions m h in (i, l, u, g.methods i l ∙ ap (left M (function_of M q) (take place chosen)) u ∙ e)

  -- classes that no method of the set tells apart by a table are alike by the classes that it goes by
  pub alike_left : Wellformed M → (stated : Bool) {table : List ℕ} → Tabled stated M order table → place < places → (a k : ℕ) → a < M.classes → k < M.classes
      → SameWithin set table (row_at place a) (row_at place k)
      → alike_at M (classes_by stated M) place (applicable_so_far M (function_of M q) (take place chosen)) a k ≡ true
  unfolding alike_at above_alike applicable_so_far
  alike_left w stated {table} t h a k l r same = every_from (λ m. above_alike M (get_or (classes_by stated M m) place 0) a k) (applicable_so_far M (function_of M q) (take place chosen)) one
    where
      one : (m : ℕ) → Memᴰ m (applicable_so_far M (function_of M q) (take place chosen)) → above_alike M (get_or (classes_by stated M m) place 0) a k ≡ true
      one m v =
          let (u, e) = keep_mem (left M (function_of M q) (take place chosen)) (upto M.methods) v in
          let (i, n, x, y) = left_member m (upto_below M.methods u) e in
          let c = class_of stated M m place in
          let told = sym (told_of w t place a i m h l n x) ∙ same i (omega (arith, w.methods_limit)) y ∙ told_of w t place k i m h r n x in
          subst (λ (c : ℕ). above_alike M c a k ≡ true) (class_by stated M m place) (same_test (subclass M a c) (subclass M k c) told)

-- a lead is a method
pub lead_present : (M : Model) (order admits set : List ℕ) (n methods : ℕ) → methods ≡ M.methods → (lead : Option ℕ) → LedBy M order admits set n lead
    → IfSome lead (λ m. m < methods)
lead_present M order admits set n methods e None led = tt
lead_present M order admits set n methods e (Some m) led = omega (arith, led.0)

-- what leads a set leads the part of it that applies to a class at a place, if it applies too
pub led_part : {M : Model} → Wellformed M → {order admits : List ℕ} → Tabled false M order admits → (set part : List ℕ) (place k n : ℕ) (lead next : Option ℕ)
    → place < places → k < M.classes → LedBy M order admits set n lead → HandedDown M k place lead next
    → SetAt part 0 (λ i. in_set set 0 i && in_set admits (row_at place k) i) → LedBy M order admits part n next
unfolding class_of
led_part w table set part place k n lead None h l led kept e = tt
led_part {M} w {order} {admits} table set part place k n lead (Some m) h l led (same, applying) e =
    let (bound, (i, x, y, z), above) = subst (LedBy M order admits set n) same led in
    let both = ap₂ (λ (a b : Bool). a && b) z (told_of w table place k i m h l x y ∙ applying) in (
      bound,
      (i, x, y, e i (omega (arith, w.methods_limit)) ∙ both),
      λ p u j v a. above p u j v (and_left (in_set set 0 j) (in_set admits (row_at place k) j) (sym (e j v) ∙ a)),
    )

-- with every place filled, the methods left are those that apply
left_candidate : (M : Model) → Wellformed M → (f : ℕ) (args : List ℕ) (m : ℕ) → length args ≡ M.arity f → m < M.methods → left M f args m ≡ true
    → Candidate M f args m
unfolding left applies
left_candidate M w f args m e h q =
    let xs = M.specialisers m in
    let same = eqb-true (M.function m) f (and_left (eqb (M.function m) f) (under M args (take (length args) xs)) q) in
    let long : length xs ≡ length args = w.specialiser_places m h ∙ ap M.arity same ∙ sym e in
    record {
      bound = h;
      of_function = same;
      applying = rw (take_all (length args) xs (le_of_eq long)) at (and_right (eqb (M.function m) f) (under M args (take (length args) xs)) q);
    }

-- and one that leads the set is what lookup finds
module _ {M : Model} (w : Wellformed M) {q : Question} {chosen order set : List ℕ} (d : Ordered M order) (g : Filling M q (length chosen) chosen order set) where
  pub lead_found : {admits : List ℕ} → Tabled false M order admits → length chosen ≤ places → (m : ℕ) → LedBy M order admits set (length chosen) (Some m)
      → found m ≡ lookup M (function_of M q) chosen
  unfolding as_specific under class_of
  lead_found table few m (h, member, above) = sym (leader_lookup M w f chosen m (record { candidate = c; specific = specific }))
    where
      f : ℕ
      f = function_of M q

      c : Candidate M f chosen m
      c =
          let (i, l, u, y) = member in
          let e : left M f chosen m ≡ true = rw (take-length chosen, u) at (sym (g.methods i l) ∙ y) in
          left_candidate M w f chosen m g.arity h e

      long : (n : ℕ) → Candidate M f chosen n → length (M.specialisers n) ≡ length chosen
      long n v = w.specialiser_places n v.bound ∙ ap M.arity v.of_function ∙ sym g.arity

      specific : (n : ℕ) → Candidate M f chosen n → as_specific M m n ≡ true
      specific n v =
          let e = candidate_left M w f chosen n g.arity v in
          let (i, l, u, y) = left_member d g n v.bound (ap (λ (xs : List ℕ). left M f xs n) (take-length chosen) ∙ e) in
          matching_from (subclass M) (M.specialisers m) (M.specialisers n) 0 0 (long m c ∙ sym (long n v))
          (λ p r.
          let inside : p < length chosen = omega (arith, long m c) in
          sym (told_of w table p (get_or (M.specialisers m) p 0) i n (omega arith) (class_below M (M.specialisers m) (w.specialisers_present m h) p r) l u)
          ∙ above p inside i (omega (arith, w.methods_limit)) y)
