-- The classes tried at a place of a tuple, with none of which the search stops: a class that is alike to one of them does not stop it either.
-- Assumes nothing.
use Prim.Native.Nat.{ℕ, ◌+◌, ◌-◌, ◌≤◌, ◌<◌}
use native.Mathlib.Omega.{arith}
use mathlib.Core.Path.{◌≡◌, refl, sym, ap, subst, fun_ext, ◌∙◌}
use mathlib.Core.Bool.{Bool, true, false, not}
use mathlib.Core.Logic.{◌⊎◌, inl, inr}
use mathlib.Core.List.Memᴰ
use mathlib.Core.List.{List, [], ◌∷◌, ◌++◌, append_assoc, Memᴰ}
use mathlib.Core.Option.{none}
use lib.ListN.{length, get_or, take, drop, set, length-set, length-append}
use lib.Seq.{length-take-le, take-set-le, set-get_or, set-set}
use Rattle.rules.specs.Bounded.{every, first}
use Rattle.rules.specs.Model.{Model, Wellformed, present}
use Rattle.rules.specs.Layout.{places}
use Rattle.rules.specs.Lookup.{Found, applicable_so_far}
use Rattle.rules.specs.Coverage.{failing, candidate_class, tuples}
use Rattle.rules.specs.Alike.{alike_at}
use Rattle.rules.specs.Rough.{is_method, is_failure}
use Rattle.rules.proofs.Lists.{get_d_mem}
use Rattle.rules.proofs.Alike.{left_decides, alike_found, alike_judged}
use Rattle.subclasses.proofs.Asked.{class_below}
use Rattle.method_sets.specs.Sets.{SomeAlike}
use Rattle.tuple_search.specs.declared.question.Question.{Question}
use Rattle.tuple_search.specs.declared.question.Question.TheVariants.{Rule, Finds, FindsOnly}
use Rattle.tuple_search.specs.Questions.{function_of, stops_at, by_declared}
use Rattle.tuple_search.specs.Search.{stop_in, Tables, Filling, Ends}
use Rattle.tuple_search.proofs.Leading.{classes_by, alike_left}
use Rattle.tuple_search.proofs.Narrowing.{present_more, chosen_more}
use Rattle.tuple_search.proofs.Searching.{remaining, search_opens, search_ends, class_passed}

-- The answer is the same for tuples that differ in alike classes alone.
stops_alike : (M : Model) (q : Question) (filled : List ℕ) (a k : ℕ)
    → alike_at M M.specialisers (length filled) (applicable_so_far M (function_of M q) filled) a k ≡ true
    → alike_at M (classes_by (by_declared q) M) (length filled) (applicable_so_far M (function_of M q) filled) a k ≡ true
    → (t : List ℕ) → stops_at M q (filled ++ (a ∷ t)) ≡ stops_at M q (filled ++ (k ∷ t))
unfolding stops_at classes_by
stops_alike M (Rule s) filled a k e d t =
    ap failing (alike_judged M filled a k t s (applicable_so_far M (M.sig_function s) filled) (left_decides M (M.sig_function s) filled) e d)
stops_alike M (Finds f) filled a k e d t = ap is_failure (alike_found M filled a k t f (applicable_so_far M f filled) (left_decides M f filled) e)
stops_alike M (FindsOnly f m) filled a k e d t =
    ap (λ (r : Found). not (is_method m r)) (alike_found M filled a k t f (applicable_so_far M f filled) (left_decides M f filled) e)

-- so alike classes are completed to the same tuples
alike_completed : (M : Model) (q : Question) (filled rest : List ℕ) (a k : ℕ)
    → alike_at M M.specialisers (length filled) (applicable_so_far M (function_of M q) filled) a k ≡ true
    → alike_at M (classes_by (by_declared q) M) (length filled) (applicable_so_far M (function_of M q) filled) a k ≡ true
    → stop_in M q (filled ++ (a ∷ [])) rest ≡ stop_in M q (filled ++ (k ∷ [])) rest
unfolding stop_in
alike_completed M q filled rest a k e d =
    ap (λ (p : List ℕ → Bool). first p (tuples M rest))
    (fun_ext (λ t. ap (stops_at M q) (append_assoc filled (a ∷ []) t) ∙ stops_alike M q filled a k e d t ∙ sym (ap (stops_at M q) (append_assoc filled (k ∷ []) t))))

-- classes of the bundle, tried at the next place, with none of which the search stops
pub record Tried (M : Model) (q : Question) (filled rest tried : List ℕ) : Type 0 where
  pub classes : present M tried ≡ true
  pub passed : (a : ℕ) → Memᴰ a tried → stop_in M q (filled ++ (a ∷ [])) rest ≡ none

module _ {M : Model} {q : Question} {filled rest : List ℕ} where
  tried_none : Tried M q filled rest []
  unfolding present every
  tried_none = record { classes = refl; passed = λ a m. absurd (Memᴰ.not-nil m) }

  tried_more : {tried : List ℕ} → Tried M q filled rest tried → (k : ℕ) → k < M.classes → stop_in M q (filled ++ (k ∷ [])) rest ≡ none
      → Tried M q filled rest (tried ++ (k ∷ []))
  tried_more {tried} g k h e = record { classes = present_more M tried k g.classes h; passed = λ a m. one a (Memᴰ.append_cases tried m) }
    where
      one : (a : ℕ) → Memᴰ a tried ⊎ Memᴰ a (k ∷ []) → stop_in M q (filled ++ (a ∷ [])) rest ≡ none
      one a (inl m) = g.passed a m
      one a (inr m) = rw (Memᴰ.eq_of_singleton m) e

-- The loop over the classes of the next place, with those below k behind it: what the whole search finds is what it finds from k on, the tried classes do not
-- stop it, and the tuple is as it was but for that place.
pub record Behind (M : Model) (q : Question) (place : ℕ) (upper old chosen tried : List ℕ) (k : ℕ) : Type 0 where
  pub few : length tried ≤ k
  pub restored : set chosen place (get_or old place 0) ≡ old
  pub passed : Tried M q (take place old) (drop (place + 1) upper) tried
  pub left : stop_in M q (take place old) (drop place upper) ≡ remaining M q (take place old) (get_or upper place 0) (drop (place + 1) upper) k

pub behind_none : {M : Model} {q : Question} {place : ℕ} {upper : List ℕ} (old : List ℕ) → place < length upper → Behind M q place upper old old [] 0
behind_none {place = place} old h =
    record {
      few = omega arith;
      restored = set-get_or old place 0;
      passed = tried_none;
      left = search_opens _ _ _ _ _ h;
    }

module _ {M : Model} {q : Question} {place : ℕ} {upper old chosen tried : List ℕ} {k : ℕ} (b : Behind M q place upper old chosen tried k) where
  -- the tuple is as long, and has the places before this one
  pub behind_kept : (length chosen ≡ length old) × (take place chosen ≡ take place old)
  behind_kept = (
    sym (length-set chosen place (get_or old place 0)) ∙ ap length b.restored,
    sym (take-set-le place chosen place (get_or old place 0) (omega arith)) ∙ ap (take place) b.restored,
  )

  -- class k is passed over where that leaves what is found
  pub behind_over : remaining M q (take place old) (get_or upper place 0) (drop (place + 1) upper) k ≡ remaining M q (take place old) (get_or upper place 0) (drop (place + 1) upper) (k + 1)
      → Behind M q place upper old chosen tried (k + 1)
  behind_over e =
      record { few = omega (arith, b.few); restored = b.restored; passed = b.passed; left = b.left ∙ e }

  -- and is one of the tried where its search finds nothing
  pub behind_more : k < M.classes → candidate_class M (get_or upper place 0) k ≡ true → stop_in M q (take place old ++ (k ∷ [])) (drop (place + 1) upper) ≡ none
      → {after : List ℕ} → after ≡ set chosen place k → Behind M q place upper old after (tried ++ (k ∷ [])) (k + 1)
  behind_more h e u s =
      record {
        few = omega (arith, b.few, length-append tried (k ∷ []));
        restored = ap (λ (xs : List ℕ). set xs place (get_or old place 0)) s ∙ set-set chosen place _ _ ∙ b.restored;
        passed = tried_more b.passed k h u;
        left = b.left ∙ class_passed _ _ _ _ _ k h e u;
      }

  -- with all classes behind, nothing is found
  pub behind_all : k ≡ M.classes → Ends M q (take place old) (drop place upper) old (set chosen place (get_or old place 0)) false
  behind_all e = (b.left ∙ ap (remaining M q (take place old) (get_or upper place 0) (drop (place + 1) upper)) e ∙ search_ends _ _ _ _ _, b.restored)

-- The tuple with class k at the next place is as long, so that one place less is to be filled, and its search ends as one with the places before it and k filled.
module _ {M : Model} {q : Question} {upper old chosen tried : List ℕ} {k : ℕ} (unfilled : ℕ) (some : 0 < unfilled) (within : unfilled ≤ length old)
    (b : Behind M q (length old - unfilled) upper old chosen tried k) where
  pub next_filled : (length (set chosen (length old - unfilled) k) ≡ length old) × (length (set chosen (length old - unfilled) k) - (unfilled - 1) ≡ length old - unfilled + 1)
  next_filled = let same = length-set chosen (length old - unfilled) k ∙ (behind_kept b).0 in (same, omega (arith, same))

  pub next_ended : (after : List ℕ) (r : Bool) → let next = set chosen (length old - unfilled) k in
      Ends M q (take (length next - (unfilled - 1)) next) (drop (length next - (unfilled - 1)) upper) next after r
      → Ends M q (take (length old - unfilled) old ++ (k ∷ [])) (drop (length old - unfilled + 1) upper) next after r
  next_ended after r e =
      let more = chosen_more chosen (length old - unfilled) k (omega (arith, (behind_kept b).0)) ∙ ap (λ (xs : List ℕ). xs ++ (k ∷ [])) (behind_kept b).1 in
      rw (next_filled.1, more) at e

-- a class that the tables show to be alike to one of them does not stop it either
pub alike_passed : {M : Model} {q : Question} {place : ℕ} {chosen order admits holds set : List ℕ} → Wellformed M → Tables M q order admits holds
    → Filling M q place chosen order set → place < places → {rest tried : List ℕ} → Tried M q (take place chosen) rest tried
    → (k : ℕ) → k < M.classes → SomeAlike admits holds set place tried (length tried) k → stop_in M q (take place chosen ++ (k ∷ [])) rest ≡ none
unfolding classes_by
alike_passed {M} {q} {place} {chosen} w tables g h {rest} {tried} d k r (j, v, e) =
    let a = get_or tried j 0 in
    let l = class_below M tried d.classes j v in
    let filled = take place chosen in
    let long : place ≡ length filled = sym (length-take-le place chosen g.within) in
    let at : (ℕ → List ℕ) → ℕ → Type 0 = λ classes i. alike_at M classes i (applicable_so_far M (function_of M q) filled) a k ≡ true in
    let specialised = subst (at M.specialisers) long (alike_left tables.ordered g w false tables.admitting h a k l r e.specialised) in
    let declared = subst (at (classes_by (by_declared q) M)) long (alike_left tables.ordered g w (by_declared q) tables.holding h a k l r e.declared) in
    sym (alike_completed M q filled rest a k specialised declared) ∙ d.passed a (get_d_mem tried j 0 v)
