-- Coverage and the verdict: the listed tuples are the covered concrete ones; a bundle is accepted exactly when the rule holds for each of them at every
-- signature and every body types; otherwise the lowest broken signature, or with none the lowest broken method, is named.
-- Assumes nothing.
use Prim.Native.Nat.{ℕ, ◌<◌}
use mathlib.Core.Path.{◌≡◌, refl, sym, ap}
use mathlib.Core.Bool.{true, false, false≢true}
use mathlib.Core.Logic.{◌⊎◌, inl, inr}
use mathlib.Core.List.Memᴰ
use mathlib.Core.List.{List, [], ◌∷◌, map, Memᴰ}
use mathlib.Core.Option.{Option, none, some}
use lib.Dec.{ltb}
use borrow.Author.Tests.{ltb-true, lt-ltb}
use Rattle.rules.specs.Bounded.{upto, every, matching}
use Rattle.rules.specs.Layout.{gives}
use Rattle.rules.specs.Model.{Model, present}
use Rattle.rules.specs.Subclass.{subclass, under}
use Rattle.rules.specs.Lookup.{Found, found, missing, ambiguous, lookup}
use Rattle.rules.specs.Types.{Typing, typed, breaks, type_body}
use Rattle.rules.specs.Coverage.{covers, declared_hold, Judgement, holds, fails, judge_found, judge, failing, concrete_class, candidate_class, concrete_under, prefixed, tuples, broken_tuple, is_some, broken_signature, breaking, broken_method, coverage_refusal, body_refusal, body_verdict, tuple_verdict, coverage_verdict, verdict}
use Rattle.rules.proofs.Lists.{test, and_left, and_right, and_both, every_mem, every_from, keep_mem, keep_in, below_upto, first_mem, first_none, none_first, lowest_none, lowest_some, none_lowest}

pub prefixed_mem : (ks : List ℕ) (ts : List (List ℕ)) {t : List ℕ} → Memᴰ t (prefixed ks ts)
    → (k : ℕ) × (u : List ℕ) × (t ≡ k ∷ u) × Memᴰ k ks × Memᴰ u ts
unfolding prefixed
prefixed_mem [] ts h = absurd (Memᴰ.not-nil h)
prefixed_mem (k ∷ ks) ts {t} h = go (Memᴰ.append_cases (map (λ t. k ∷ t) ts) h) (λ m. prefixed_mem ks ts m)
  where
    go : Memᴰ t (map (λ t. k ∷ t) ts) ⊎ Memᴰ t (prefixed ks ts)
        → (Memᴰ t (prefixed ks ts) → (j : ℕ) × (u : List ℕ) × (t ≡ j ∷ u) × Memᴰ j ks × Memᴰ u ts)
        → (j : ℕ) × (u : List ℕ) × (t ≡ j ∷ u) × Memᴰ j (k ∷ ks) × Memᴰ u ts
    go (inl m) rest = let (u, n, e) = Memᴰ.of_map (λ t. k ∷ t) ts m in (k, u, sym e, Memᴰ.head refl, n)
    go (inr m) rest = let (j, u, e, a, c) = rest m in (j, u, e, Memᴰ.tail a, c)

prefixed_in : (ks : List ℕ) (ts : List (List ℕ)) {k : ℕ} {u : List ℕ} → Memᴰ k ks → Memᴰ u ts → Memᴰ (k ∷ u) (prefixed ks ts)
unfolding prefixed
prefixed_in [] ts h m = absurd (Memᴰ.not-nil h)
prefixed_in (j ∷ ks) ts {k} {u} (Memᴰ.head e) m =
    Memᴰ.append_left (prefixed ks ts) (Memᴰ.cast (ap (λ (x : ℕ). x ∷ u) e) (Memᴰ.map (λ t. j ∷ t) m))
prefixed_in (j ∷ ks) ts (Memᴰ.tail h) m = Memᴰ.append_right (map (λ t. j ∷ t) ts) (prefixed_in ks ts h m)

pub concrete_present : (M : Model) (v : ℕ) → concrete_class M v ≡ true → v < M.classes
unfolding concrete_class
concrete_present M v e = ltb-true v M.classes (and_left (ltb v M.classes) (M.concrete v) e)

pub concretes_present : (M : Model) (vs : List ℕ) → every (concrete_class M) vs ≡ true → present M vs ≡ true
unfolding present
concretes_present M vs e = every_from (λ v. ltb v M.classes) vs (λ v m. lt-ltb v M.classes (concrete_present M v (every_mem (concrete_class M) vs e m)))

pub concrete_mem : (M : Model) (c : ℕ) {k : ℕ} → Memᴰ k (concrete_under M c) → (concrete_class M k ≡ true) × (subclass M k c ≡ true)
unfolding concrete_under
concrete_mem M c {k} h =
    let e = (keep_mem (candidate_class M c) (upto M.classes) h).1 in
    (and_left (concrete_class M k) (subclass M k c) e, and_right (concrete_class M k) (subclass M k c) e)

pub concrete_in : (M : Model) (c k : ℕ) → concrete_class M k ≡ true → subclass M k c ≡ true → Memᴰ k (concrete_under M c)
unfolding concrete_under
concrete_in M c k e s =
    keep_in (candidate_class M c) (upto M.classes) (below_upto M.classes k (concrete_present M k e)) (and_both (concrete_class M k) (subclass M k c) e s)

-- The tuples of a list of classes are the lists of concrete classes under them; of no class there is the empty one alone.
pub tuples_mem : (M : Model) (cs : List ℕ) {t : List ℕ} → Memᴰ t (tuples M cs) → (every (concrete_class M) t ≡ true) × (under M t cs ≡ true)
unfolding tuples under every matching
tuples_mem M [] h = rw (Memᴰ.eq_of_singleton h) (refl, refl)
tuples_mem M (c ∷ cs) h =
    let (k, u, e, a, b) = prefixed_mem (concrete_under M c) (tuples M cs) h in
    let (p, q) = concrete_mem M c a in
    let (r, s) = tuples_mem M cs b in
    rw e (and_both (concrete_class M k) (every (concrete_class M) u) p r, and_both (subclass M k c) (matching (subclass M) u cs) q s)

pub tuples_in : (M : Model) (cs t : List ℕ) → every (concrete_class M) t ≡ true → under M t cs ≡ true → Memᴰ t (tuples M cs)
unfolding tuples under every matching
tuples_in M [] [] e h = Memᴰ.head refl
tuples_in M [] (k ∷ t) e h = absurd (false≢true h)
tuples_in M (c ∷ cs) [] e h = absurd (false≢true h)
tuples_in M (c ∷ cs) (k ∷ t) e h =
    prefixed_in (concrete_under M c) (tuples M cs)
    (concrete_in M c k (and_left (concrete_class M k) (every (concrete_class M) t) e) (and_left (subclass M k c) (matching (subclass M) t cs) h))
    (tuples_in M cs t (and_right (concrete_class M k) (every (concrete_class M) t) e) (and_right (subclass M k c) (matching (subclass M) t cs) h))

-- what a judgement that holds says
pub record Holding (M : Model) (s : ℕ) (args : List ℕ) (m : ℕ) : Type 0 where
  pub by_lookup : lookup M (M.sig_function s) args ≡ found m
  pub declared_holds : declared_hold M m args ≡ true
  pub result_under : subclass M (M.result m) (M.sig_result s) ≡ true

judged_found : (M : Model) (s : ℕ) (args : List ℕ) (m : ℕ) (r : Found) → lookup M (M.sig_function s) args ≡ r → judge_found M s args r ≡ holds m → Holding M s args m
unfolding judge_found
judged_found M s args m missing q e = absurd (false≢true (cc))
judged_found M s args m (ambiguous a b) q e = absurd (false≢true (cc))
judged_found M s args m (found n) q e = go (test (declared_hold M n args)) (test (subclass M (M.result n) (M.sig_result s)))
  where
    go : (declared_hold M n args ≡ true) ⊎ (declared_hold M n args ≡ false)
        → (subclass M (M.result n) (M.sig_result s) ≡ true) ⊎ (subclass M (M.result n) (M.sig_result s) ≡ false) → Holding M s args m
    go (inl d) (inl u) =
        let same : n ≡ m = cc (rw (d, u) at e) in
        rw (← same) (record { by_lookup = q; declared_holds = d; result_under = u })
    go (inl d) (inr u) = absurd (false≢true (cc (rw (d, u) at e)))
    go (inr d) u = absurd (false≢true (cc (rw d at e)))

pub judge_holds : (M : Model) (s : ℕ) (args : List ℕ) (m : ℕ) → judge M s args ≡ holds m → Holding M s args m
unfolding judge
judge_holds M s args m e = judged_found M s args m (lookup M (M.sig_function s) args) refl e

-- a judgement that does not fail holds with some method
not_failing : (j : Judgement) → failing j ≡ false → (m : ℕ) × (j ≡ holds m)
unfolding failing
not_failing (holds m) e = (m, refl)
not_failing (fails number ms) e = absurd (false≢true (sym e))

-- The search finds nothing exactly when the rule holds for every concrete tuple that the signature covers; what it names is broken.
pub covered_holds : (M : Model) (s : ℕ) → broken_tuple M s ≡ none → (t : List ℕ) → every (concrete_class M) t ≡ true → covers M s t ≡ true
    → (m : ℕ) × (judge M s t ≡ holds m)
unfolding broken_tuple covers
covered_holds M s e t c u =
    not_failing (judge M s t) (first_none (λ t. failing (judge M s t)) (tuples M (M.sig_args s)) e (tuples_in M (M.sig_args s) t c u))

pub broken_fails : (M : Model) (s : ℕ) (t : List ℕ) → broken_tuple M s ≡ some t → failing (judge M s t) ≡ true
unfolding broken_tuple
broken_fails M s t e = (first_mem (λ t. failing (judge M s t)) (tuples M (M.sig_args s)) e).1

pub holds_unbroken : (M : Model) (s : ℕ) → ((t : List ℕ) → every (concrete_class M) t ≡ true → covers M s t ≡ true → failing (judge M s t) ≡ false)
    → broken_tuple M s ≡ none
unfolding broken_tuple covers
holds_unbroken M s h =
    none_first (λ t. failing (judge M s t)) (tuples M (M.sig_args s))
    (λ t m. let (c, u) = tuples_mem M (M.sig_args s) m in h t c u)

some_of : {A : Type 0} (r : Option A) → is_some r ≡ true → (x : A) × (r ≡ some x)
unfolding is_some
some_of none e = absurd (false≢true e)
some_of (some x) e = (x, refl)

pub none_of : {A : Type 0} (r : Option A) → is_some r ≡ false → r ≡ none
unfolding is_some
none_of none e = refl
none_of (some x) e = absurd (false≢true (sym e))

not_breaking : (t : Typing) → breaking t ≡ false → t ≡ typed
unfolding breaking
not_breaking typed e = refl
not_breaking (breaks number at) e = absurd (false≢true (sym e))

-- a signature for which the coverage rule holds at every tuple
abbrev pub Covered : Model → ℕ → Type 0
Covered M s = (t : List ℕ) → every (concrete_class M) t ≡ true → covers M s t ≡ true → (m : ℕ) × (judge M s t ≡ holds m)

-- The lowest broken signature: some tuple of it is broken, and each lower one is covered. There is none exactly when all are covered.
pub broken_signature_lem : (M : Model) (s : ℕ) → broken_signature M ≡ some s
    → (s < M.signatures) × ((t : List ℕ) × (broken_tuple M s ≡ some t)) × ((r : ℕ) → r < s → Covered M r)
unfolding broken_signature
broken_signature_lem M s e =
    let (h, p, low) = lowest_some (λ s. is_some (broken_tuple M s)) M.signatures s e in
    (h, some_of (broken_tuple M s) p, λ r k. covered_holds M r (none_of (broken_tuple M r) (low r k)))

pub no_broken_signature : (M : Model) → broken_signature M ≡ none → (s : ℕ) → s < M.signatures → Covered M s
unfolding broken_signature
no_broken_signature M e s h = covered_holds M s (none_of (broken_tuple M s) (lowest_none (λ s. is_some (broken_tuple M s)) M.signatures e s h))

pub all_covered : (M : Model) → ((s : ℕ) → s < M.signatures → Covered M s) → broken_signature M ≡ none
unfolding broken_signature is_some failing
all_covered M h =
    none_lowest (λ s. is_some (broken_tuple M s)) M.signatures
    (λ s k. ap is_some (holds_unbroken M s (λ t c u. ap failing (h s k t c u).1)))

-- The lowest broken method, likewise.
pub broken_method_lem : (M : Model) (m : ℕ) → broken_method M ≡ some m
    → (m < M.methods) × (breaking (type_body M m) ≡ true) × ((n : ℕ) → n < m → type_body M n ≡ typed)
unfolding broken_method
broken_method_lem M m e =
    let (h, p, low) = lowest_some (λ m. breaking (type_body M m)) M.methods m e in
    (h, p, λ n k. not_breaking (type_body M n) (low n k))

pub no_broken_method : (M : Model) → broken_method M ≡ none → (m : ℕ) → m < M.methods → type_body M m ≡ typed
unfolding broken_method
no_broken_method M e m h = not_breaking (type_body M m) (lowest_none (λ m. breaking (type_body M m)) M.methods e m h)

pub all_typed : (M : Model) → ((m : ℕ) → m < M.methods → type_body M m ≡ typed) → broken_method M ≡ none
unfolding broken_method breaking
all_typed M h = none_lowest (λ m. breaking (type_body M m)) M.methods (λ m k. ap breaking (h m k))

-- every signature's coverage holds and every body types
pub record Acceptable (M : Model) : Type 0 where
  pub signatures : (s : ℕ) → s < M.signatures → Covered M s
  pub bodies : (m : ℕ) → m < M.methods → type_body M m ≡ typed

refused_coverage : (M : Model) (s : ℕ) (args : List ℕ) (j : Judgement) → failing j ≡ true → coverage_refusal M s args j ≡ gives tt → ⊥
unfolding failing coverage_refusal
refused_coverage M s args (holds m) f e = false≢true f
refused_coverage M s args (fails number ms) f e = false≢true (cc)

refused_body : (m : ℕ) (t : Typing) → breaking t ≡ true → body_refusal m t ≡ gives tt → ⊥
unfolding breaking body_refusal
refused_body m typed f e = false≢true f
refused_body m (breaks number at) f e = false≢true (cc)

-- the verdict is accepted exactly when the bundle is acceptable
pub accepted_acceptable : (M : Model) → verdict M ≡ gives tt → Acceptable M
unfolding verdict coverage_verdict tuple_verdict body_verdict
accepted_acceptable M e = go (broken_signature M) refl (broken_method M) refl
  where
    go : (s : Option ℕ) → broken_signature M ≡ s → (m : Option ℕ) → broken_method M ≡ m → Acceptable M
    go none p none q = record { signatures = no_broken_signature M p; bodies = no_broken_method M q }
    go none p (some m) q = absurd (refused_body m (type_body M m) (broken_method_lem M m q).1 (rw (p, q) at e))
    go (some s) p m q =
        let (t, r) = (broken_signature_lem M s p).1 in
        absurd (refused_coverage M s t (judge M s t) (broken_fails M s t r) (rw (p, r) at e))

pub acceptable_accepted : (M : Model) → Acceptable M → verdict M ≡ gives tt
unfolding verdict coverage_verdict body_verdict
acceptable_accepted M a = rw (all_covered M a.signatures, all_typed M a.bodies)

-- otherwise the lowest broken signature is refused with its first broken tuple, or with none the lowest broken method
pub verdict_signature : (M : Model) (s : ℕ) (t : List ℕ) → broken_signature M ≡ some s → broken_tuple M s ≡ some t
    → verdict M ≡ coverage_refusal M s t (judge M s t)
unfolding verdict coverage_verdict tuple_verdict
verdict_signature M s t p q = rw (p, q)

pub verdict_method : (M : Model) (m : ℕ) → broken_signature M ≡ none → broken_method M ≡ some m → verdict M ≡ body_refusal m (type_body M m)
unfolding verdict coverage_verdict body_verdict
verdict_method M m p q = rw (p, q)
