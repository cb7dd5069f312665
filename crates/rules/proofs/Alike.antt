-- What a check of coverage need not try again. Classes that no method tells apart are judged alike in every tuple, and a signature that a covered one
-- implies is covered.
-- Assumes nothing.
use Prim.Native.Nat.{ℕ}
use mathlib.Core.Path.{◌≡◌, refl, sym, ap, ◌∙◌}
use mathlib.Core.Bool.{Bool, true, false, beq, ◌&&◌}
use mathlib.Core.List.{List, ◌∷◌, ◌++◌, Memᴰ}
use mathlib.Core.Option.{none}
use lib.Dec.{eqb}
use lib.ListN.{length, get_or, take}
use borrow.Author.Tests.{eqb-true}
use Rattle.rules.specs.Bounded.{upto, every, keep}
use Rattle.rules.specs.Model.{Model, Wellformed}
use Rattle.rules.specs.Subclass.{subclass, under}
use Rattle.rules.specs.Lookup.{Found, found, missing, ambiguous, applies, applicable, left, applicable_so_far, select, lookup}
use Rattle.rules.specs.Coverage.{covers, declared_hold, judge_found, judge, failing, concrete_class, broken_tuple}
use Rattle.rules.specs.Alike.{above_alike, alike_at, Decides, implies}
use Rattle.rules.proofs.Lists.{and_left, and_right, every_mem, keep_mem, keep_agree, keep_keep, matching_append, matching_swap}
use Rattle.rules.proofs.Subclass.{subclass_trans, under_trans}
use Rattle.rules.proofs.Lookup.{lookup_leader}
use Rattle.rules.proofs.Selection.{select_found}
use Rattle.rules.proofs.Coverage.{concretes_present, judge_holds, covered_holds, holds_unbroken}

-- Bools that a test calls equal
equal_tests : (a b : Bool) → beq a b ≡ true → a ≡ b
equal_tests true true e = refl
equal_tests true false e = sym e
equal_tests false true e = e
equal_tests false false e = refl

-- a test that a later one repeats
repeated : (a b c d : Bool) → c ≡ (b && d) → (a && c) ≡ (a && b && c)
repeated true true c d e = refl
repeated true false c d e = e
repeated false b c d e = refl

-- the methods left, once some places are filled, decide
pub left_decides : (M : Model) (f : ℕ) (filled : List ℕ) → Decides M f filled (applicable_so_far M f filled)
unfolding lookup applicable applicable_so_far left applies under
left_decides M f filled u =
    ap (select M)
    (keep_agree (λ m. eqb (M.function m) f && whole m) (λ m. left M f filled m && whole m) (upto M.methods)
    (λ m h. repeated (eqb (M.function m) f) (begun m) (whole m) _ (matching_append (subclass M) filled u (M.specialisers m)))
    ∙ sym (keep_keep (left M f filled) whole (upto M.methods)))
  where
    begun : ℕ → Bool
    begun m = under M filled (take (length filled) (M.specialisers m))

    whole : ℕ → Bool
    whole m = applies M (filled ++ u) m

-- Alike classes: with the first places filled, a list that decides, and no method of it whose specialiser at the next place tells the classes apart, lookup
-- finds the same for each two tuples that differ in them alone. The coverage rule says the same of the two where no declared class there tells them apart either.
module _ (M : Model) (filled : List ℕ) (a b : ℕ) (t : List ℕ) where
  -- classes by places, with either class at the next one
  under_alike : (cs : List ℕ) → above_alike M (get_or cs (length filled) 0) a b ≡ true → under M (filled ++ (a ∷ t)) cs ≡ under M (filled ++ (b ∷ t)) cs
  unfolding under above_alike
  under_alike cs h =
      let c = get_or cs (length filled) 0 in
      matching_swap (subclass M) filled a b t cs 0 (equal_tests (subclass M a c) (subclass M b c) h)

  -- as they are for a method of the list
  under_method : (classes : ℕ → List ℕ) (ms : List ℕ) → alike_at M classes (length filled) ms a b ≡ true → {m : ℕ} → Memᴰ m ms
      → under M (filled ++ (a ∷ t)) (classes m) ≡ under M (filled ++ (b ∷ t)) (classes m)
  unfolding alike_at
  under_method classes ms e {m} h = under_alike (classes m) (every_mem (λ m. above_alike M (get_or (classes m) (length filled) 0) a b) ms e h)

  module _ (f : ℕ) (ms : List ℕ) (decides : Decides M f filled ms) (specialised : alike_at M M.specialisers (length filled) ms a b ≡ true) where
    pub alike_found : lookup M f (filled ++ (a ∷ t)) ≡ lookup M f (filled ++ (b ∷ t))
    unfolding applies
    alike_found =
        decides (a ∷ t)
        ∙ ap (select M) (keep_agree (applies M (filled ++ (a ∷ t))) (applies M (filled ++ (b ∷ t))) ms (λ m h. under_method M.specialisers ms specialised h))
        ∙ sym (decides (b ∷ t))

  module _ (s : ℕ) (ms : List ℕ) (decides : Decides M (M.sig_function s) filled ms) (specialised : alike_at M M.specialisers (length filled) ms a b ≡ true)
      (declared : alike_at M M.declared (length filled) ms a b ≡ true)
    where
      pub alike_judged : judge M s (filled ++ (a ∷ t)) ≡ judge M s (filled ++ (b ∷ t))
      unfolding judge judge_found declared_hold
      alike_judged =
          go (lookup M (M.sig_function s) (filled ++ (a ∷ t))) refl ∙ ap (judge_found M s (filled ++ (b ∷ t))) (alike_found (M.sig_function s) ms decides specialised)
        where
          go : (r : Found) → lookup M (M.sig_function s) (filled ++ (a ∷ t)) ≡ r
              → judge_found M s (filled ++ (a ∷ t)) r ≡ judge_found M s (filled ++ (b ∷ t)) r
          go missing q = refl
          go (ambiguous m n) q = refl
          go (found m) q =
              let among = (select_found M (keep (applies M (filled ++ (a ∷ t))) ms) m (sym (decides (a ∷ t)) ∙ q)).0 in
              rw (under_method M.declared ms declared (keep_mem (applies M (filled ++ (a ∷ t))) ms among).0)

-- Implied signatures: what s covers r covers, with a method whose result class is under that of r and so under that of s.
module _ (M : Model) (w : Wellformed M) (r s : ℕ) (e : implies M r s ≡ true) where
  implying : (M.sig_function r ≡ M.sig_function s) × (under M (M.sig_args s) (M.sig_args r) ≡ true) × (subclass M (M.sig_result r) (M.sig_result s) ≡ true)
  unfolding implies
  implying =
      let function = eqb (M.sig_function r) (M.sig_function s) in
      let covering = under M (M.sig_args s) (M.sig_args r) in
      let result = subclass M (M.sig_result r) (M.sig_result s) in
      let both = and_left (function && covering) result e in
      (eqb-true (M.sig_function r) (M.sig_function s) (and_left function covering both), and_right function covering both, and_right (function && covering) result e)

  pub implied_covered : broken_tuple M r ≡ none → broken_tuple M s ≡ none
  unfolding covers judge judge_found failing
  implied_covered h = holds_unbroken M s one
    where
      one : (t : List ℕ) → every (concrete_class M) t ≡ true → covers M s t ≡ true → failing (judge M s t) ≡ false
      one t c u =
          let (function, covering, result) = implying in
          let (m, q) = covered_holds M r h t c (under_trans M w t (M.sig_args s) (M.sig_args r) (concretes_present M t c) u covering) in
          let g = judge_holds M r t m q in
          let l : lookup M (M.sig_function s) t ≡ found m = ap (λ (f : ℕ). lookup M f t) (sym function) ∙ g.by_lookup in
          let bound = (lookup_leader M (M.sig_function s) t m l).candidate.bound in
          rw (l, g.declared_holds, subclass_trans M w (M.result m) (M.sig_result r) (M.sig_result s) (w.result_present m bound) g.result_under result)
