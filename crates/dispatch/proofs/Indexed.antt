-- The index of the methods, made from the highest one down, and the walk along it over a function's methods.
-- Assumes nothing.
use Prim.Native.Nat.{ℕ, zero, suc, ◌+◌, ◌≤◌, ◌<◌}
use native.Mathlib.Decide.{ℕ_discrete}
use native.Mathlib.Nat.{eq-or-lt_of_le}
use native.Mathlib.Numerals.{add-one}
use native.Mathlib.Omega.{arith}
use mathlib.Core.Path.{◌≡◌, refl, sym, ap, ◌∙◌}
use mathlib.Core.Bool.{Bool, true, false, not, ◌&&◌, false≢true, and-true}
use mathlib.Core.Logic.{◌⊎◌, inl, inr}
use mathlib.Core.List.{List, [], ◌∷◌, ◌++◌}
use Rattle.std.specs.Prelude.{Option, Some, None}
use lib.Dec.{eqb}
use lib.ListN.{length, get_or, set, replicate, length-set, length-replicate, get_or-replicate}
use lib.Seq.{get_or-set_same, get_or-set_other}
use borrow.Author.Tests.{eq-eqb, ne_eqb}
use Rattle.rules.specs.Bounded.{upto, keep}
use Rattle.rules.specs.Layout.{max_functions, max_methods}
use Rattle.rules.specs.Model.{Model}
use Rattle.rules.specs.Lookup.{applies, applicable}
use Rattle.rules.proofs.Lists.{keep_agree, keep_keep, keep_upto_hit, keep_upto_miss, keep_upto_length}
use Rattle.dispatch.specs.Index.{number_or_count, NextMethod, IndexedFrom, Indexed, indexed}
use Rattle.dispatch.specs.Listed.{applicable_but, applicable_without, other_than}

module _ (M : Model) where
  -- what comes next from k on is not below k
  next_above : (f k : ℕ) (next : Option ℕ) → NextMethod M f k next → k ≤ M.methods → k ≤ number_or_count M next
  next_above f k None n h = h
  next_above f k (Some m) n h = (n.found m refl).1

  -- from the count on there is no method
  next_none : (f k : ℕ) → M.methods ≤ k → NextMethod M f k None
  next_none f k h = record { found = λ m e. absurd (false≢true cc); lowest = λ j p q e. omega arith }

  -- a method comes next of its own function, and not of another
  next_itself : (f m : ℕ) → M.function m ≡ f → m < M.methods → NextMethod M f m (Some m)
  next_itself f m e h = record { found = λ k q. let same : m ≡ k = cc in rw (← same) (h, omega arith, e); lowest = λ j p q r. omega arith }

  next_lower : (f k : ℕ) (next : Option ℕ) → (M.function k ≡ f → ⊥) → NextMethod M f (k + 1) next → NextMethod M f k next
  next_lower f k next d n =
      record {
        found = λ m e. let r = n.found m e in (r.0, omega (arith, r.1), r.2);
        lowest = λ j p q e. go j q e (eq-or-lt_of_le p);
      }
    where
      go : (j : ℕ) → j < number_or_count M next → M.function j ≡ f → (k ≡ j) ⊎ (k < j) → ⊥
      go j q e (inl s) = d (rw s e)
      go j q e (inr s) = n.lowest j (omega arith) q e

  -- an index of no method
  pub index_none : (n : ℕ) → n ≡ M.methods → IndexedFrom M (replicate max_functions None) (replicate max_methods None) n
  index_none n e =
      rw e
      (record {
        functions = length-replicate {A = Option ℕ} max_functions None;
        methods = length-replicate {A = Option ℕ} max_methods None;
        begins = λ f h. rw (get_or-replicate {A = Option ℕ} max_functions f None None h) (next_none f M.methods (omega arith));
        goes_on = λ m l h. rw (get_or-replicate {A = Option ℕ} max_methods m None None h) (next_none (M.function m) (m + 1) (omega arith));
      })

  -- with one method more: it leads where its function's entry led, and that entry to it
  pub index_more : (first next : List (Option ℕ)) (k f : ℕ) → IndexedFrom M first next (k + 1) → M.function k ≡ f → k < M.methods → k < max_methods → f < max_functions
      → IndexedFrom M (set first f (Some k)) (set next k (get_or first f None)) k
  index_more first next k f i e present few low =
      record {
        functions = length-set first f (Some k) ∙ i.functions;
        methods = length-set next k (get_or first f None) ∙ i.methods;
        begins = λ g h. begin g h (ℕ_discrete g f);
        goes_on = λ m l h. go_on m h (eq-or-lt_of_le l);
      }
    where
      begin : (g : ℕ) → g < max_functions → Dec (g ≡ f) → NextMethod M g k (get_or (set first f (Some k)) g None)
      begin g h (yes s) = rw (s, get_or-set_same first f (Some k) None (omega (arith, i.functions))) (next_itself f k e present)
      begin g h (no d) = rw (get_or-set_other first f g (Some k) None d) (next_lower g k (get_or first g None) (λ q. d (sym q ∙ e)) (i.begins g h))

      go_on : (m : ℕ) → m < max_methods → (k ≡ m) ⊎ (k < m) → NextMethod M (M.function m) (m + 1) (get_or (set next k (get_or first f None)) m None)
      go_on m h (inl s) = rw (← s, e, get_or-set_same next k (get_or first f None) None (omega (arith, i.methods))) (i.begins f low)
      go_on m h (inr s) = rw (get_or-set_other next k m (get_or first f None) None (λ q. omega arith)) (i.goes_on m (omega arith) h)

pub indexed_of : {M : Model} {first next : List (Option ℕ)} → Indexed M first next → IndexedFrom M first next 0
indexed_of (indexed i) = i

-- m applies, and is another than `but`
abbrev pub other_applies : Model → List ℕ → Option ℕ → ℕ → Bool
other_applies M args but m = applies M args m && other_than but m

-- and is a method of function f
abbrev pub suited : Model → ℕ → List ℕ → Option ℕ → ℕ → Bool
suited M f args but m = eqb (M.function m) f && applies M args m && other_than but m

-- the methods of the bundle that are
pub but_suited : (M : Model) (f : ℕ) (args : List ℕ) (but : Option ℕ) → keep (suited M f args but) (upto M.methods) ≡ applicable_without M f args but
unfolding applicable_without applicable_but applicable
but_suited M f args None = keep_agree _ _ (upto M.methods) (λ m h. and-true (eqb (M.function m) f && applies M args m))
but_suited M f args (Some n) = sym (keep_keep _ (λ m. not (eqb m n)) (upto M.methods))

-- numbers that do not pass are passed over
keep_skip : (p : ℕ → Bool) (k j : ℕ) → k ≤ j → ((i : ℕ) → k ≤ i → i < j → p i ≡ false) → keep p (upto k) ≡ keep p (upto j)
keep_skip p k zero l none = let e : k ≡ 0 = omega arith in rw e
keep_skip p k (suc j) l none = go (eq-or-lt_of_le l) (λ r. keep_skip p k j r (λ i q h. none i q (omega arith)))
  where
    go : (k ≡ suc j) ⊎ (k < suc j) → (k ≤ j → keep p (upto k) ≡ keep p (upto j)) → keep p (upto k) ≡ keep p (upto (suc j))
    go (inl e) rest = rw e
    go (inr h) rest = rest (omega arith) ∙ sym (rw add-one at (keep_upto_miss p j (none j (omega arith) (omega arith))))

-- A walk along the index over the methods of function f: of those below the next one the list has the suited ones, and that is one of the function.
pub record Walking (M : Model) (f : ℕ) (args : List ℕ) (but : Option ℕ) (list : List ℕ) (next : Option ℕ) : Type 0 where
  pub few : length list ≤ number_or_count M next
  pub holds : list ≡ keep (suited M f args but) (upto (number_or_count M next))
  pub found : (m : ℕ) → next ≡ Some m → (m < M.methods) × (M.function m ≡ f)

module _ (M : Model) (f : ℕ) (args : List ℕ) (but : Option ℕ) where
  -- the methods that the index passes over are of other functions
  walk_on : {list : List ℕ} {k : ℕ} (next : Option ℕ) → k ≤ M.methods → list ≡ keep (suited M f args but) (upto k) → NextMethod M f k next
      → Walking M f args but list next
  walk_on {k = k} next h holds n =
      let all = holds ∙ keep_skip (suited M f args but) k (number_or_count M next) (next_above M f k next n h) (λ j l q. other j (n.lowest j l q)) in
      record {
        few = omega (arith, ap length all, keep_upto_length (suited M f args but) (number_or_count M next));
        holds = all;
        found = λ m e. let r = n.found m e in (r.0, r.2);
      }
    where
      other : (j : ℕ) → (M.function j ≡ f → ⊥) → suited M f args but j ≡ false
      other j d = rw (ne_eqb (M.function j) f d)

  module _ {first next : List (Option ℕ)} (i : IndexedFrom M first next 0) where
    pub walk_begins : f < max_functions → Walking M f args but [] (get_or first f None)
    unfolding upto keep
    walk_begins h = walk_on (get_or first f None) (omega arith) refl (i.begins f h)

    -- from a method to the next of its function
    module _ {list : List ℕ} {m : ℕ} (w : Walking M f args but list (Some m)) (few : M.methods ≤ max_methods) where
      walk_next : NextMethod M f (m + 1) (get_or next m None)
      walk_next = let r = w.found m refl in rw r.1 at (i.goes_on m (omega arith) (omega (arith, r.0)))

      pub walk_rises : m < number_or_count M (get_or next m None)
      walk_rises = omega (arith, next_above M f (m + 1) (get_or next m None) walk_next (omega (arith, (w.found m refl).0)))

      suited_as : {t : Bool} → other_applies M args but m ≡ t → suited M f args but m ≡ t
      suited_as e = rw (eq-eqb (M.function m) f (w.found m refl).1) e

      pub walk_miss : other_applies M args but m ≡ false → Walking M f args but list (get_or next m None)
      walk_miss e =
          walk_on (get_or next m None) (omega (arith, (w.found m refl).0)) (w.holds ∙ sym (keep_upto_miss (suited M f args but) m (suited_as e))) walk_next

      pub walk_hit : other_applies M args but m ≡ true → Walking M f args but (list ++ m ∷ []) (get_or next m None)
      walk_hit e =
          walk_on (get_or next m None) (omega (arith, (w.found m refl).0))
          (ap (λ (l : List ℕ). l ++ m ∷ []) w.holds ∙ sym (keep_upto_hit (suited M f args but) m (suited_as e))) walk_next

  pub walk_ends : {list : List ℕ} → Walking M f args but list None → list ≡ applicable_without M f args but
  walk_ends w = w.holds ∙ but_suited M f args but
