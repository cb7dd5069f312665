-- The search: with every place filled there is one tuple to ask about; otherwise it goes through the classes of the next place in number order.
-- Assumes nothing.
use Prim.Native.Nat.{ℕ, suc, ◌+◌, ◌<◌}
use native.Mathlib.Numerals.{add-one}
use native.Mathlib.Omega.{arith}
use mathlib.Core.Path.{◌≡◌, refl, sym, ap, subst, fun_ext, ◌∙◌}
use mathlib.Core.Bool.{Bool, true, false}
use mathlib.Core.Logic.{◌⊎◌, inl, inr}
use mathlib.Core.List.{List, [], ◌∷◌, ◌++◌, map, append-nil, append_assoc}
use mathlib.Core.Option
use mathlib.Core.Option.{Option, none, some}
use lib.ListN.{length, get_or, drop}
use lib.Seq.{drop-cons, drop-length}
use Rattle.rules.specs.Bounded.{upto, keep, first}
use Rattle.rules.specs.Model.{Model}
use Rattle.rules.specs.Coverage.{candidate_class, concrete_under, prefixed, tuples}
use Rattle.rules.proofs.Lists.{test, keep_hit, keep_miss, first_hit, first_miss, first_append_none, first_append_some, length_upto, get_d_upto}
use Rattle.tuple_search.specs.declared.question.Question.{Question}
use Rattle.tuple_search.specs.Questions.{stops_at}
use Rattle.tuple_search.specs.Search.{stop_in, Ends}

first_map : {A B : Type 0} (p : B → Bool) (f : A → B) (xs : List A) → first p (map f xs) ≡ Option.map f (first (λ x. p (f x)) xs)
unfolding first
first_map p f [] = refl
first_map p f (x ∷ xs) = go (test (p (f x))) (first_map p f xs)
  where
    go : (p (f x) ≡ true) ⊎ (p (f x) ≡ false) → first p (map f xs) ≡ Option.map f (first (λ x. p (f x)) xs)
        → first p (f x ∷ map f xs) ≡ Option.map f (first (λ x. p (f x)) (x ∷ xs))
    go (inl e) r = first_hit p (f x) (map f xs) e ∙ ap (Option.map f) (sym (first_hit (λ x. p (f x)) x xs e))
    go (inr e) r = first_miss p (f x) (map f xs) e ∙ r ∙ ap (Option.map f) (sym (first_miss (λ x. p (f x)) x xs e))

-- the classes from k on are k and those after it
next_class : (n k : ℕ) → k < n → drop k (upto n) ≡ k ∷ drop (k + 1) (upto n)
next_class n k h =
    drop-cons (upto n) k 0 (omega (arith, length_upto n))
    ∙ ap (λ (x : ℕ). x ∷ drop (suc k) (upto n)) (get_d_upto n k 0 h)
    ∙ ap (λ (j : ℕ). k ∷ drop j (upto n)) (sym (add-one k))

no_class : (n : ℕ) → drop n (upto n) ≡ []
no_class n = ap (λ (j : ℕ). drop j (upto n)) (sym (length_upto n)) ∙ drop-length (upto n)

-- the search stops at the tuple that the filled places and t make
abbrev stops : Model → Question → List ℕ → List ℕ → Bool
stops M q filled t = stops_at M q (filled ++ t)

-- what is left of the search once the classes below k have been tried at the next place
unfoldable pub remaining : Model → Question → List ℕ → ℕ → List ℕ → ℕ → Option (List ℕ)
remaining M q filled c rest k = first (stops M q filled) (prefixed (keep (candidate_class M c) (drop k (upto M.classes))) (tuples M rest))

-- what a search that did not stop leaves, and one that did
module _ (M : Model) (q : Question) (filled rest old new : List ℕ) (r : Bool) (w : Ends M q filled rest old new r) where
  pub passed_through : r ≡ false → (stop_in M q filled rest ≡ none) × (new ≡ old)
  passed_through e = subst (Ends M q filled rest old new) e w

  pub stopped_at_lem : r ≡ true → (t : List ℕ) × (stop_in M q filled rest ≡ some t) × (new ≡ filled ++ t)
  stopped_at_lem e = subst (Ends M q filled rest old new) e w

module _ (M : Model) (q : Question) (filled : List ℕ) where
  -- every place is filled
  pub filled_ends : (r : Bool) → r ≡ stops_at M q filled → Ends M q filled [] filled filled r
  unfolding stop_in tuples first
  filled_ends true e = ([], first_hit (stops M q filled) [] [] (ap (stops_at M q) (append-nil filled) ∙ sym e), sym (append-nil filled))
  filled_ends false e = (first_miss (stops M q filled) [] [] (ap (stops_at M q) (append-nil filled) ∙ sym e), refl)

  module _ (c : ℕ) (rest : List ℕ) where
    pub search_starts : stop_in M q filled (c ∷ rest) ≡ remaining M q filled c rest 0
    unfolding stop_in remaining tuples concrete_under
    search_starts = refl

    pub search_ends : remaining M q filled c rest M.classes ≡ none
    unfolding remaining keep prefixed first
    search_ends = ap (λ (ks : List ℕ). first (stops M q filled) (prefixed (keep (candidate_class M c) ks) (tuples M rest))) (no_class M.classes)

    pub class_skipped : (k : ℕ) → k < M.classes → candidate_class M c k ≡ false → remaining M q filled c rest k ≡ remaining M q filled c rest (k + 1)
    unfolding remaining
    class_skipped k h e =
        ap (λ (ks : List ℕ). first (stops M q filled) (prefixed ks (tuples M rest)))
        (ap (keep (candidate_class M c)) (next_class M.classes k h) ∙ keep_miss (candidate_class M c) k (drop (k + 1) (upto M.classes)) e)

    module _ (k : ℕ) (h : k < M.classes) (e : candidate_class M c k ≡ true) where
      later : List (List ℕ)
      later = prefixed (keep (candidate_class M c) (drop (k + 1) (upto M.classes))) (tuples M rest)

      class_split : remaining M q filled c rest k ≡ first (stops M q filled) (map (λ t. k ∷ t) (tuples M rest) ++ later)
      unfolding remaining prefixed later
      class_split =
          ap (λ (ks : List ℕ). first (stops M q filled) (prefixed ks (tuples M rest)))
          (ap (keep (candidate_class M c)) (next_class M.classes k h) ∙ keep_hit (candidate_class M c) k (drop (k + 1) (upto M.classes)) e)

      -- the tuples with k at the next place are those of the search with that place filled
      class_filled : first (stops M q filled) (map (λ t. k ∷ t) (tuples M rest)) ≡ Option.map (λ t. k ∷ t) (stop_in M q (filled ++ (k ∷ [])) rest)
      unfolding stop_in
      class_filled =
          first_map (stops M q filled) (λ t. k ∷ t) (tuples M rest)
          ∙ ap (λ (p : List ℕ → Bool). Option.map (λ t. k ∷ t) (first p (tuples M rest)))
          (fun_ext (λ t. ap (stops_at M q) (sym (append_assoc filled (k ∷ []) t))))

      -- where it does not stop there, what is left is after k
      pub class_passed : stop_in M q (filled ++ (k ∷ [])) rest ≡ none → remaining M q filled c rest k ≡ remaining M q filled c rest (k + 1)
      unfolding remaining later
      class_passed p =
          class_split ∙ first_append_none (stops M q filled) (map (λ t. k ∷ t) (tuples M rest)) later (class_filled ∙ ap (Option.map (λ t. k ∷ t)) p)

      -- where it does, that tuple is the first of the whole
      pub class_stops : (before after : List ℕ) (r : Bool) → Ends M q (filled ++ (k ∷ [])) rest before after r → r ≡ true → (whole old : List ℕ)
          → stop_in M q filled whole ≡ remaining M q filled c rest k → Ends M q filled whole old after true
      class_stops before after r w s whole old d =
          let (t, p, g) = stopped_at_lem M q (filled ++ (k ∷ [])) rest before after r w s in (
            k ∷ t,
            d
                ∙ class_split
                ∙ first_append_some (stops M q filled) (map (λ t. k ∷ t) (tuples M rest)) later (class_filled ∙ ap (Option.map (λ t. k ∷ t)) p),
            g ∙ append_assoc filled (k ∷ []) t,
          )

-- the upper classes from a place on are the one there and those after it
pub search_opens : (M : Model) (q : Question) (place : ℕ) (filled upper : List ℕ) → place < length upper
    → stop_in M q filled (drop place upper) ≡ remaining M q filled (get_or upper place 0) (drop (place + 1) upper) 0
search_opens M q place filled upper h =
    ap (stop_in M q filled)
    (drop-cons upper place 0 h ∙ ap (λ (i : ℕ). get_or upper place 0 ∷ drop i upper) (sym (add-one place)))
    ∙ search_starts M q filled (get_or upper place 0) (drop (place + 1) upper)

-- with every place filled there is none
pub no_place : (xs : List ℕ) (place : ℕ) → length xs ≡ place → drop place xs ≡ []
no_place xs place e = ap (λ (i : ℕ). drop i xs) (sym e) ∙ drop-length xs
