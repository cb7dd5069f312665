-- What a rough answer says, and that it stays true while upper classes give way to classes under them.
-- Assumes nothing.
use Prim.Native.Nat.{ℕ, ◌<◌}
use mathlib.Core.Path.{◌≡◌, refl, sym, ap, subst, ◌∙◌}
use mathlib.Core.Bool.{Bool, true, false, false≢true}
use mathlib.Core.Logic.{◌⊎◌, inl, inr}
use mathlib.Core.List.{List, [], ◌∷◌, Memᴰ}
use mathlib.Core.Option.{Option, none, some}
use borrow.Author.Tests.{eqb-true, eq-eqb}
use Rattle.rules.specs.Bounded.{upto, every, matching}
use Rattle.rules.specs.Layout.{gives}
use Rattle.rules.specs.Model.{Model, Wellformed, model_of}
use Rattle.rules.specs.Subclass.{subclass, under}
use Rattle.rules.specs.Lookup.{Found, found, missing, ambiguous, lookup}
use Rattle.rules.specs.Coverage.{covers, concrete_class, candidate_class, tuples, Below, verdict}
use Rattle.rules.specs.Calls.{send_rule, used, check_call}
use Rattle.rules.specs.Rough.{Rough, one, may_fail, several, is_method, is_failure, shared_method, some_fails, rough_by, rough, has_concrete, rough_of, rough_in, rough_call, Differing, Says, NarrowsTo, AllAlone, certain}
use Rattle.rules.proofs.Lists.{and_left, and_right, and_both, every_mem, every_from, every_fails, any_mem, any_from, any_fails, first_mem, first_none, below_upto}
use Rattle.rules.proofs.Subclass.{under_trans, under_itself}
use Rattle.rules.proofs.Opening.{require_passed}
use Rattle.rules.proofs.Lookup.{lookup_leader}
use Rattle.rules.proofs.Coverage.{concrete_present, concretes_present, tuples_mem, tuples_in, judge_holds, Covered, accepted_acceptable}
use Rattle.rules.proofs.Calls.{called_gives}

-- what the tests say of what is found
pub is_method_lem : (m : ℕ) (r : Found) → is_method m r ≡ true → r ≡ found m
unfolding is_method
is_method_lem m (found n) e = ap found (eqb-true n m e)
is_method_lem m missing e = absurd (false≢true e)
is_method_lem m (ambiguous n o) e = absurd (false≢true e)

pub no_failure : (r : Found) → is_failure r ≡ false → (m : ℕ) × (r ≡ found m)
unfolding is_failure
no_failure (found m) e = (m, refl)
no_failure missing e = absurd (false≢true (sym e))
no_failure (ambiguous m n) e = absurd (false≢true (sym e))

pub found_no_failure : (r : Found) (m : ℕ) → r ≡ found m → is_failure r ≡ false
unfolding is_failure
found_no_failure r m e = rw e

-- the tuples listed are those below
module _ (M : Model) (upper : List ℕ) where
  pub below_listed : (t : List ℕ) → Below M upper t → Memᴰ t (tuples M upper)
  below_listed t b = tuples_in M upper t b.concrete b.covered

  pub listed_below : {t : List ℕ} → Memᴰ t (tuples M upper) → Below M upper t
  listed_below m = let (c, u) = tuples_mem M upper m in record { concrete = c; covered = u }

-- There is a tuple below exactly where each upper class has a concrete class under it.
pub below_some : (M : Model) (upper : List ℕ) → every (has_concrete M) upper ≡ true → (t : List ℕ) × Below M upper t
unfolding every under matching has_concrete
below_some M [] e = ([], record { concrete = refl; covered = refl })
below_some M (c ∷ cs) e =
    let (k, _, p) = any_mem (candidate_class M c) (upto M.classes) (and_left (has_concrete M c) (every (has_concrete M) cs) e) in
    let (t, b) = below_some M cs (and_right (has_concrete M c) (every (has_concrete M) cs) e) in (
      k ∷ t,
      record {
        concrete = and_both (concrete_class M k) (every (concrete_class M) t) (and_left (concrete_class M k) (subclass M k c) p) b.concrete;
        covered = and_both (subclass M k c) (matching (subclass M) t cs) (and_right (concrete_class M k) (subclass M k c) p) b.covered;
      },
    )

pub below_concrete : (M : Model) (upper t : List ℕ) → Below M upper t → every (has_concrete M) upper ≡ true
unfolding under every matching has_concrete
below_concrete M upper t b = go upper t b.concrete b.covered
  where
    go : (cs ks : List ℕ) → every (concrete_class M) ks ≡ true → matching (subclass M) ks cs ≡ true → every (has_concrete M) cs ≡ true
    go [] ks e q = refl
    go (c ∷ cs) [] e q = absurd (false≢true q)
    go (c ∷ cs) (k ∷ ks) e q =
        let concrete = and_left (concrete_class M k) (every (concrete_class M) ks) e in
        and_both (has_concrete M c) (every (has_concrete M) cs)
        (any_from (candidate_class M c) (upto M.classes) (below_upto M.classes k (concrete_present M k concrete))
        (and_both (concrete_class M k) (subclass M k c) concrete (and_left (subclass M k c) (matching (subclass M) ks cs) q)))
        (go cs ks (and_right (concrete_class M k) (every (concrete_class M) ks) e) (and_right (subclass M k c) (matching (subclass M) ks cs) q))

-- and what is below narrower classes is below the wider ones
below_wider : (M : Model) → Wellformed M → (upper lower : List ℕ) → under M lower upper ≡ true → (t : List ℕ) → Below M lower t → Below M upper t
below_wider M w upper lower h t b =
    record { concrete = b.concrete; covered = under_trans M w t lower upper (concretes_present M t b.concrete) b.covered h }

module _ (M : Model) (f : ℕ) (upper : List ℕ) where
  -- where the answer is one method, or may fail, no tuple is needed
  shared_says : (m : ℕ) → shared_method M f (tuples M upper) ≡ some m → Says M f upper (one m)
  unfolding shared_method
  shared_says m e t b =
      let all = (first_mem (λ m. every (λ t. is_method m (lookup M f t)) (tuples M upper)) (upto M.methods) e).1 in
      is_method_lem m (lookup M f t) (every_mem (λ t. is_method m (lookup M f t)) (tuples M upper) all (below_listed M upper t b))

  fails_says : some_fails M f (tuples M upper) ≡ true → Says M f upper may_fail
  unfolding some_fails
  fails_says e =
      let (t, m, q) = any_mem (λ t. is_failure (lookup M f t)) (tuples M upper) e in
      (t, listed_below M upper m, q)

  none_fails : some_fails M f (tuples M upper) ≡ false → (t : List ℕ) → Below M upper t → is_failure (lookup M f t) ≡ false
  unfolding some_fails
  none_fails e t b = any_fails (λ t. is_failure (lookup M f t)) (tuples M upper) e (below_listed M upper t b)

  -- with a tuple below, and no method that all find, two tuples find different methods
  differing : (t : List ℕ) → Below M upper t → some_fails M f (tuples M upper) ≡ false → shared_method M f (tuples M upper) ≡ none → Differing M f upper
  unfolding shared_method is_method
  differing t b e s =
      let (m, q) = no_failure (lookup M f t) (none_fails e t b) in
      let bound = (lookup_leader M f t m q).candidate.bound in
      let some_other = first_none (λ m. every (λ t. is_method m (lookup M f t)) (tuples M upper)) (upto M.methods) s (below_upto M.methods m bound) in
      let (u, v, other) = every_fails (λ t. is_method m (lookup M f t)) (tuples M upper) some_other in
      let c = listed_below M upper v in
      let (n, r) = no_failure (lookup M f u) (none_fails e u c) in
      record {
        left = t;
        right = u;
        left_below = b;
        right_below = c;
        left_method = m;
        right_method = n;
        left_found = q;
        right_found = r;
        apart = λ same. another m n same (rw r at other);
      }
    where
      another : (m n : ℕ) → m ≡ n → is_method m (found n) ≡ false → ⊥
      another m n same h = false≢true (sym h ∙ eq-eqb n m (sym same))

  pub rough_says : every (has_concrete M) upper ≡ true → Says M f upper (rough M f upper)
  unfolding rough rough_by
  rough_says h = go (shared_method M f (tuples M upper)) refl (some_fails M f (tuples M upper)) refl
    where
      go : (s : Option ℕ) → shared_method M f (tuples M upper) ≡ s → (x : Bool) → some_fails M f (tuples M upper) ≡ x → Says M f upper (rough_by s x)
      go (some m) e x q = shared_says m e
      go none e true q = fails_says q
      go none e false q = let (t, b) = below_some M upper h in (none_fails q, differing t b q e)

  -- With a tuple below no two answers are true.
  one_apart : (m : ℕ) → Says M f upper (one m) → Differing M f upper → ⊥
  one_apart m a d =
      let same : found d.left_method ≡ found d.right_method =
      sym d.left_found ∙ a d.left d.left_below ∙ sym (a d.right d.right_below) ∙ d.right_found in
      d.apart (cc)

  one_fails : (m : ℕ) → Says M f upper (one m) → Says M f upper may_fail → ⊥
  one_fails m a (t, b, e) = false≢true (sym (found_no_failure (lookup M f t) m (a t b)) ∙ e)

  says_once : (t : List ℕ) → Below M upper t → (r q : Rough) → Says M f upper r → Says M f upper q → r ≡ q
  says_once t b (one m) (one n) a c = let same : found m ≡ found n = sym (a t b) ∙ c t b in cc
  says_once t b (one m) may_fail a c = absurd (one_fails m a c)
  says_once t b (one m) several a (c, d) = absurd (one_apart m a d)
  says_once t b may_fail (one m) c a = absurd (one_fails m a c)
  says_once t b may_fail may_fail a c = refl
  says_once t b may_fail several (u, d, e) (c, _) = absurd (false≢true (sym (c u d) ∙ e))
  says_once t b several (one m) (c, d) a = absurd (one_apart m a d)
  says_once t b several may_fail (c, _) (u, d, e) = absurd (false≢true (sym (c u d) ∙ e))
  says_once t b several several a c = refl

  -- The answer is the one that is true.
  pub says_rough : every (has_concrete M) upper ≡ true → (r : Rough) → Says M f upper r → r ≡ rough M f upper
  says_rough h r a = let (t, b) = below_some M upper h in says_once t b r (rough M f upper) a (rough_says h)

-- Narrowing: with a concrete class under each of the lower classes, one method stays that method, and several becomes several or one.
pub narrowing : (M : Model) → Wellformed M → (f : ℕ) (upper lower : List ℕ) → under M lower upper ≡ true → every (has_concrete M) lower ≡ true
    → (r : Rough) → Says M f upper r → NarrowsTo r (rough M f lower)
narrowing M w f upper lower h c (one m) a = sym (says_rough M f lower c (one m) (λ t b. a t (below_wider M w upper lower h t b)))
narrowing M w f upper lower h c may_fail a = tt
narrowing M w f upper lower h c several (a, _) = go (rough M f lower) (rough_says M f lower c)
  where
    go : (r : Rough) → Says M f lower r → (r ≡ several) ⊎ ((m : ℕ) × (r ≡ one m))
    go (one m) d = inr (m, refl)
    go may_fail (t, b, e) = absurd (false≢true (sym (a t (below_wider M w upper lower h t b)) ∙ e))
    go several d = inl refl

-- Classes that are alone: the only tuple below them is themselves, and the answer is lookup's.
alone_below : (M : Model) (upper t : List ℕ) → AllAlone M upper → Below M upper t → t ≡ upper
unfolding under every matching
alone_below M upper t a b = go upper t a b.concrete b.covered
  where
    go : (cs ks : List ℕ) → AllAlone M cs → every (concrete_class M) ks ≡ true → matching (subclass M) ks cs ≡ true → ks ≡ cs
    go [] [] h e q = refl
    go [] (k ∷ ks) h e q = absurd (false≢true q)
    go (c ∷ cs) [] h e q = absurd (false≢true q)
    go (c ∷ cs) (k ∷ ks) h e q =
        let head = (h c (Memᴰ.head refl)).itself k (and_left (concrete_class M k) (every (concrete_class M) ks) e) (and_left (subclass M k c) (matching (subclass M) ks cs) q) in
        let rest = go cs ks (λ x m. h x (Memᴰ.tail m)) (and_right (concrete_class M k) (every (concrete_class M) ks) e) (and_right (subclass M k c) (matching (subclass M) ks cs) q) in
        rw (head, rest)

pub alone_rough : (M : Model) (f : ℕ) (upper : List ℕ) → AllAlone M upper → rough M f upper ≡ certain (lookup M f upper)
unfolding certain is_failure
alone_rough M f upper a = sym (says_rough M f upper (below_concrete M upper upper itself) (certain (lookup M f upper)) (says (lookup M f upper) refl))
  where
    itself : Below M upper upper
    itself = record { concrete = every_from (concrete_class M) upper (λ c m. (a c m).concrete); covered = under_itself M upper }

    says : (r : Found) → lookup M f upper ≡ r → Says M f upper (certain r)
    says (found m) e = λ t b. ap (lookup M f) (alone_below M upper t a b) ∙ e
    says missing e = (upper, itself, rw e)
    says (ambiguous m n) e = (upper, itself, rw e)

-- A signature whose coverage holds: no tuple below classes that it covers fails, so none below its own.
pub covered_rough : (M : Model) → Wellformed M → (s : ℕ) → Covered M s → (upper : List ℕ) → covers M s upper ≡ true
    → Says M (M.sig_function s) upper may_fail → ⊥
unfolding covers
covered_rough M w s h upper u (t, b, e) =
    let c = below_wider M w (M.sig_args s) upper u t b in
    let (m, q) = h t c.concrete c.covered in
    false≢true (sym (found_no_failure (lookup M (M.sig_function s) t) m (judge_holds M s t m q).by_lookup) ∙ e)

-- so the answer for its own classes is another
pub own_rough : (M : Model) → Wellformed M → (s : ℕ) → Covered M s → every (has_concrete M) (M.sig_args s) ≡ true
    → rough M (M.sig_function s) (M.sig_args s) ≡ may_fail → ⊥
unfolding covers
own_rough M w s h c e =
    covered_rough M w s h (M.sig_args s) (under_itself M (M.sig_args s))
    (subst (Says M (M.sig_function s) (M.sig_args s)) e (rough_says M (M.sig_function s) (M.sig_args s) c))

-- What a call that answers says: the send is one of the bundle, each upper class at a used place has a concrete class under it, and the answer is the
-- definition's, which is true of the tuples below.
pub record Answered (b : List ℕ) (f : ℕ) (tuple : List ℕ) (r : Rough) : Type 0 where
  pub wellformed : Wellformed (model_of b)
  pub kept : send_rule (model_of b) f tuple ≡ true
  pub inhabited : every (has_concrete (model_of b)) (used (model_of b) f tuple) ≡ true
  pub answer : rough (model_of b) f (used (model_of b) f tuple) ≡ r
  pub says : Says (model_of b) f (used (model_of b) f tuple) r

pub rough_answered : (b : List ℕ) (scratch f : ℕ) (tuple : List ℕ) (r : Rough) → rough_call b scratch f tuple ≡ gives r → Answered b f tuple r
unfolding rough_call rough_in rough_of
rough_answered b scratch f tuple r e =
    let M = model_of b in
    let (w, q) = called_gives b scratch (rough_in f tuple) r e in
    let (s, p) = require_passed (send_rule M f tuple) 18 _ q in
    let (c, d) = require_passed (every (has_concrete M) (used M f tuple)) 24 _ p in
    let same : rough M f (used M f tuple) ≡ r = cc (d) in
    record {
      wellformed = w;
      kept = s;
      inhabited = c;
      answer = same;
      says = subst (Says M f (used M f tuple)) same (rough_says M f (used M f tuple) c);
    }

-- Two calls on one bundle, with whatever scratch: upper classes that give way to classes under them.
pub calls_narrow : (b : List ℕ) (n k f : ℕ) (wide narrow : List ℕ) (r q : Rough) → rough_call b n f wide ≡ gives r → rough_call b k f narrow ≡ gives q
    → under (model_of b) (used (model_of b) f narrow) (used (model_of b) f wide) ≡ true → NarrowsTo r q
calls_narrow b n k f wide narrow r q e d h =
    let a = rough_answered b n f wide r e in
    let c = rough_answered b k f narrow q d in
    subst (NarrowsTo r) c.answer
    (narrowing (model_of b) a.wellformed f (used (model_of b) f wide) (used (model_of b) f narrow) h c.inhabited r a.says)

-- a call with classes that are alone answers what lookup finds for them
pub call_alone : (b : List ℕ) (n f : ℕ) (tuple : List ℕ) (r : Rough) → rough_call b n f tuple ≡ gives r → AllAlone (model_of b) (used (model_of b) f tuple)
    → r ≡ certain (lookup (model_of b) f (used (model_of b) f tuple))
call_alone b n f tuple r e a = sym (rough_answered b n f tuple r e).answer ∙ alone_rough (model_of b) f (used (model_of b) f tuple) a

-- A check that accepted, and a call with classes that some signature of the function covers, its own among them: it does not answer that the send may fail.
pub accepted_rough : (b : List ℕ) (n k s : ℕ) (tuple : List ℕ) → check_call b n ≡ gives tt → s < (model_of b).signatures
    → covers (model_of b) s (used (model_of b) ((model_of b).sig_function s) tuple) ≡ true → rough_call b k ((model_of b).sig_function s) tuple ≡ gives may_fail → ⊥
unfolding check_call
accepted_rough b n k s tuple e h u d =
    let M = model_of b in
    let (w, accepted) = called_gives b n verdict tt e in
    covered_rough M w s ((accepted_acceptable M accepted).signatures s h) (used M (M.sig_function s) tuple) u
    (rough_answered b k (M.sig_function s) tuple may_fail d).says
