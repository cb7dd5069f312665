-- A tuple whose places are filled one by one: the set of the methods that are left, narrowed at each place, and the classes chosen.
-- Assumes nothing.
use Prim.Native.Nat.{ℕ, ◌+◌, ◌≤◌, ◌<◌}
use native.Mathlib.Numerals.{add-one}
use native.Mathlib.Omega.{arith}
use mathlib.Core.Path.{◌≡◌, refl, sym, ap, ap₂, ◌∙◌}
use mathlib.Core.Bool.{Bool, true, false, ◌&&◌, and-false}
use mathlib.Core.Logic.{◌⊎◌, inl, inr}
use mathlib.Core.List.Memᴰ
use mathlib.Core.List.{List, [], ◌∷◌, ◌++◌, Memᴰ}
use lib.Dec.{ltb, eqb}
use lib.ListN.{length, get_or, take, set, length-set}
use lib.Seq.{take-suc-set, take-length, length-take-le}
use borrow.Author.Tests.{lt-ltb}
use Rattle.rules.specs.Bounded.{every}
use Rattle.rules.specs.Layout.{places}
use Rattle.rules.specs.Model.{Model, Wellformed, model_of, present}
use Rattle.rules.specs.Subclass.{subclass, under}
use Rattle.rules.specs.Lookup.{left}
use Rattle.rules.specs.Coverage.{concrete_class, candidate_class, Below}
use Rattle.rules.specs.Bits.{in_set}
use Rattle.rules.proofs.Lists.{every_mem, every_from, matching_length}
use Rattle.rules.proofs.Lookup.{left_none, left_more}
use Rattle.rules.proofs.Coverage.{concretes_present}
use Rattle.layout.specs.Opened.{Opened}
use Rattle.layout.specs.declared.bundle.Bundle.{Bundle}
use Rattle.layout.proofs.Opened.{wellformed_of, counts_of}
use Rattle.subclasses.specs.Places.{Arguments}
use Rattle.method_sets.specs.Sets.{row_at, SetAt, method_at, method_of, class_of, Ordered, Tabled}
use Rattle.method_sets.proofs.Rows.{told_method, of_function}
use Rattle.tuple_search.specs.declared.question.Question.{Question}
use Rattle.tuple_search.specs.declared.question.Question.TheVariants.{Rule, Finds, FindsOnly}
use Rattle.tuple_search.specs.Questions.{About, function_of}
use Rattle.tuple_search.specs.Search.{Filling}

module _ (M : Model) where
  -- a class is a candidate by whether it is concrete, then by whether it is under the upper class
  pub abstract_class : (c k : ℕ) → M.concrete k ≡ false → false ≡ candidate_class M c k
  unfolding concrete_class
  abstract_class c k e = rw (e, and-false)

  pub concrete_class_lem : (c k : ℕ) → k < M.classes → M.concrete k ≡ true → subclass M k c ≡ candidate_class M c k
  unfolding concrete_class
  concrete_class_lem c k h e = rw (lt-ltb k M.classes h, e)

  -- one class more is present
  pub present_more : (xs : List ℕ) (k : ℕ) → present M xs ≡ true → k < M.classes → present M (xs ++ (k ∷ [])) ≡ true
  unfolding present
  present_more xs k e h = every_from (λ c. ltb c M.classes) (xs ++ (k ∷ [])) (λ x m. one x (Memᴰ.append_cases xs m))
    where
      one : (x : ℕ) → Memᴰ x xs ⊎ Memᴰ x (k ∷ []) → ltb x M.classes ≡ true
      one x (inl m) = every_mem (λ c. ltb c M.classes) xs e m
      one x (inr m) = rw (Memᴰ.eq_of_singleton m) (lt-ltb k M.classes h)

-- the filled places, with one more filled
pub chosen_more : (chosen : List ℕ) (place k : ℕ) → place < length chosen → take (place + 1) (set chosen place k) ≡ take place chosen ++ (k ∷ [])
chosen_more chosen place k h = rw (add-one place, take-suc-set chosen place k h)

-- the function that is asked about is one of the bundle
pub about_function : {M : Model} → Wellformed M → (q : Question) → About M q → function_of M q < M.functions
about_function w (Rule s) h = w.sig_function_lem s h
about_function w (Finds f) h = h
about_function w (FindsOnly f m) h = h

module _ {b : List ℕ} {t : Bundle} (o : Opened b t) {q : Question} {order : List ℕ} where
  -- with no place filled all methods of the function are left
  pub filling_none : {f : ℕ} {chosen set₀ : List ℕ} → About (model_of b) q → f ≡ function_of (model_of b) q → length chosen ≡ (model_of b).arity (function_of (model_of b) q)
      → SetAt set₀ 0 (method_of (model_of b) order f) → Filling (model_of b) q 0 chosen order set₀
  unfolding present every
  filling_none {f} h e a m =
      record {
        about = h;
        arity = a;
        within = omega arith;
        classes = refl;
        methods = λ i l.
            m i (omega (arith, (wellformed_of o).methods_limit))
            ∙ of_function (model_of b) order f i l
            ∙ ap (eqb ((model_of b).function (method_at order i))) e
            ∙ sym (left_none (model_of b) (function_of (model_of b) q) (method_at order i));
      }

  module _ {place : ℕ} {chosen set₀ : List ℕ} (g : Filling (model_of b) q place chosen order set₀) where
    -- a function has no more places than the layout
    pub filling_places : length chosen ≤ places
    filling_places = omega (arith, g.arity, (wellformed_of o).arity_limit (function_of (model_of b) q) (about_function (wellformed_of o) q g.about))

    -- the same places after a search that keeps them
    pub filling_kept : (after : List ℕ) → length after ≡ length chosen → take place after ≡ take place chosen → Filling (model_of b) q place after order set₀
    filling_kept after l e =
        record {
          about = g.about;
          arity = l ∙ g.arity;
          within = omega (arith, g.within);
          classes = rw e g.classes;
          methods = rw e g.methods;
        }

    -- a place more, with the methods left narrowed
    pub filling_more : {admits : List ℕ} → Ordered (model_of b) order → Tabled false (model_of b) order admits → (k : ℕ) {next : List ℕ} → place < length chosen → k < t.classes
        → SetAt next 0 (λ i. in_set set₀ 0 i && in_set admits (row_at place k) i)
        → Filling (model_of b) q (place + 1) (set chosen place k) order next
    unfolding class_of
    filling_more d table k {next} h l e =
        let M = model_of b in
        let f = function_of M q in
        let w = wellformed_of o in
        let counts = counts_of o in
        let long = length-take-le place chosen (omega arith) in
        let narrowed : (i : ℕ) → i < M.methods → in_set next 0 i ≡ left M f (take (place + 1) (set chosen place k)) (method_at order i) =
        λ i r.
        let m = method_at order i in
        e i (omega (arith, w.methods_limit))
        ∙ ap₂ (λ (x y : Bool). x && y) (g.methods i r) (told_method w table place k i (omega (arith, filling_places)) (omega arith) r)
        ∙ ap (λ (j : ℕ). left M f (take place chosen) m && subclass M k (get_or (M.specialisers m) j 0)) (sym long)
        ∙ left_more M f (take place chosen) k m (λ u. omega (arith, w.specialiser_places m (d.methods i r), ap M.arity u, g.arity))
        ∙ ap (λ (xs : List ℕ). left M f xs m) (sym (chosen_more chosen place k h)) in
        record {
          about = g.about;
          arity = length-set chosen place k ∙ g.arity;
          within = omega (arith, length-set chosen place k);
          classes = rw (chosen_more chosen place k h) (present_more M (take place chosen) k g.classes (omega arith));
          methods = narrowed;
        }

  -- with every place filled the tuple is one of arguments
  pub filled_arguments : {chosen set₀ : List ℕ} → Filling (model_of b) q (length chosen) chosen order set₀ → Arguments (model_of b) (function_of (model_of b) q) chosen
  filled_arguments {chosen} g =
      record {
        function = about_function (wellformed_of o) q g.about;
        arity = g.arity;
        classes = rw (take-length chosen) at g.classes;
      }

-- the classes of a tuple below arguments are arguments too
pub below_arguments : {M : Model} {f : ℕ} {upper t : List ℕ} → Arguments M f upper → Below M upper t → Arguments M f t
unfolding under
below_arguments {M} {f} {upper} {t} a b =
    record {
      function = a.function;
      arity = matching_length (subclass M) t upper b.covered ∙ a.arity;
      classes = concretes_present M t b.concrete;
    }
