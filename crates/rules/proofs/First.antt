-- The tuples of a signature are listed in the order of their class numbers, the leftmost place turning slowest, so that the broken tuple that is found is the
-- first; and there is one first at the most.
-- Assumes nothing.
use Prim.Native.Nat.{ℕ, ◌<◌}
use native.Mathlib.Omega.{arith}
use mathlib.Core.Path.{◌≡◌, refl, sym, ap, ◌∙◌}
use mathlib.Core.Bool.{Bool, true, false, false≢true}
use mathlib.Core.Logic.{◌⊎◌, inl, inr}
use mathlib.Core.List.Memᴰ
use mathlib.Core.List.{List, [], ◌∷◌, map, Memᴰ}
use mathlib.Core.Option.{Option, none, some}
use lib.Dec.{ltb}
use lib.ListN.{length, get_or, drop}
use borrow.Author.Tests.{ltb-true, ltb-false}
use Rattle.rules.specs.Bounded.{upto, first}
use Rattle.rules.specs.Model.{Model}
use Rattle.rules.specs.Subclass.{subclass, under}
use Rattle.rules.specs.Coverage.{judge, failing, concrete_under, prefixed, tuples, Below, broken_tuple}
use Rattle.rules.specs.First.{Before, here, later, FirstBroken}
use Rattle.rules.proofs.Lists.{test, first_hit, first_miss, first_mem, first_none, matching_length, Ordered, ordered_append, ordered_keep, Rising, rising_upto}
use Rattle.rules.proofs.Coverage.{prefixed_mem, tuples_mem, tuples_in}

-- no two tuples come before each other
before_apart : {xs ys us vs : List ℕ} → Before xs ys → Before us vs → us ≡ ys → vs ≡ xs → ⊥
before_apart (here h) (here k) e g = omega (arith, h, k, ap (λ (l : List ℕ). get_or l 0 0) e, ap (λ (l : List ℕ). get_or l 0 0) g)
before_apart (here h) (later b) e g = omega (arith, h, ap (λ (l : List ℕ). get_or l 0 0) e, ap (λ (l : List ℕ). get_or l 0 0) g)
before_apart (later b) (here k) e g = omega (arith, k, ap (λ (l : List ℕ). get_or l 0 0) e, ap (λ (l : List ℕ). get_or l 0 0) g)
before_apart (later b) (later c) e g = before_apart b c (ap (λ (l : List ℕ). drop 1 l) e) (ap (λ (l : List ℕ). drop 1 l) g)

before_never : {xs ys : List ℕ} → Before xs ys → Before ys xs → ⊥
before_never b c = before_apart b c refl refl

ordered_map : (k : ℕ) (ts : List (List ℕ)) → Ordered Before ts → Ordered Before (map (λ t. k ∷ t) ts)
ordered_map k [] a = tt
ordered_map k (t ∷ ts) a = (λ u m. one u m, ordered_map k ts a.1)
  where
    one : (u : List ℕ) → Memᴰ u (map (λ t. k ∷ t) ts) → Before (k ∷ t) u
    one u m = let (v, n, e) = Memᴰ.of_map (λ t. k ∷ t) ts m in rw (← e) (later (a.0 v n))

ordered_prefixed : (ks : List ℕ) (ts : List (List ℕ)) → Rising ks → Ordered Before ts → Ordered Before (prefixed ks ts)
unfolding prefixed
ordered_prefixed [] ts r a = tt
ordered_prefixed (k ∷ ks) ts r a =
    ordered_append Before (map (λ t. k ∷ t) ts) (prefixed ks ts) (ordered_map k ts a) (ordered_prefixed ks ts r.1 a) across
  where
    across : (t u : List ℕ) → Memᴰ t (map (λ t. k ∷ t) ts) → Memᴰ u (prefixed ks ts) → Before t u
    across t u m n =
        let (v, _, e) = Memᴰ.of_map (λ t. k ∷ t) ts m in
        let (j, w, q, l, _) = prefixed_mem ks ts n in
        rw (← e, q) (here (r.0 j l))

tuples_ordered : (M : Model) (cs : List ℕ) → Ordered Before (tuples M cs)
unfolding tuples concrete_under
tuples_ordered M [] = (λ u m. absurd (Memᴰ.not-nil m), tt)
tuples_ordered M (c ∷ cs) =
    ordered_prefixed (concrete_under M c) (tuples M cs) (ordered_keep ◌<◌ _ (upto M.classes) (rising_upto M.classes)) (tuples_ordered M cs)

-- what passes a test first in an ordered list has nothing before it that passes
first_before : (p : List ℕ → Bool) (ts : List (List ℕ)) → Ordered Before ts → {t : List ℕ} → first p ts ≡ some t → (u : List ℕ) → Memᴰ u ts → Before u t → p u ≡ false
first_before p [] a e u m b = absurd (Memᴰ.not-nil m)
first_before p (x ∷ ts) a {t} e u m b = go (test (p x)) (Memᴰ.cases_cons m) (λ q. first_before p ts a.1 q u)
  where
    found : p x ≡ true → x ≡ t
    found h = cc (sym (first_hit p x ts h) ∙ e)

    go : (p x ≡ true) ⊎ (p x ≡ false) → (u ≡ x) ⊎ Memᴰ u ts → (first p ts ≡ some t → Memᴰ u ts → Before u t → p u ≡ false) → p u ≡ false
    go (inl h) (inl q) rest = let twice : Before t t = rw (q, found h) at b in absurd (before_never twice twice)
    go (inl h) (inr n) rest = absurd (before_never (rw (found h) at (a.0 u n)) b)
    go (inr h) (inl q) rest = rw q h
    go (inr h) (inr n) rest = rest (sym (first_miss p x ts h) ∙ e) n b

-- Of two tuples with as many classes one comes before the other, if they are not the same.
before_or_same : (xs ys : List ℕ) → length xs ≡ length ys → (xs ≡ ys) ⊎ (Before xs ys ⊎ Before ys xs)
before_or_same [] [] e = inl refl
before_or_same [] (b ∷ ys) e = absurd (omega (arith, e))
before_or_same (a ∷ xs) [] e = absurd (omega (arith, e))
before_or_same (a ∷ xs) (b ∷ ys) e = go (ltb a b) refl (ltb b a) refl (before_or_same xs ys (omega (arith, e)))
  where
    go : (x : Bool) → ltb a b ≡ x → (y : Bool) → ltb b a ≡ y → (xs ≡ ys) ⊎ (Before xs ys ⊎ Before ys xs)
        → ((a ∷ xs) ≡ (b ∷ ys)) ⊎ (Before (a ∷ xs) (b ∷ ys) ⊎ Before (b ∷ ys) (a ∷ xs))
    go true h y k rest = inr (inl (here (ltb-true a b h)))
    go false h true k rest = inr (inr (here (ltb-true b a k)))
    go false h false k rest = same rest
      where
        equal : a ≡ b
        equal = omega (arith, ltb-false a b h, ltb-false b a k)

        same : (xs ≡ ys) ⊎ (Before xs ys ⊎ Before ys xs) → ((a ∷ xs) ≡ (b ∷ ys)) ⊎ (Before (a ∷ xs) (b ∷ ys) ⊎ Before (b ∷ ys) (a ∷ xs))
        same (inl q) = inl (rw (equal, q))
        same (inr (inl q)) = inr (inl (rw equal (later q)))
        same (inr (inr q)) = inr (inr (rw equal (later q)))

-- The broken tuple that is found is the first, and the first is the one found.
pub broken_first : (M : Model) (s : ℕ) (args : List ℕ) → broken_tuple M s ≡ some args → FirstBroken M s args
unfolding broken_tuple
broken_first M s args e =
    let (m, f) = first_mem (λ t. failing (judge M s t)) (tuples M (M.sig_args s)) e in
    let (c, u) = tuples_mem M (M.sig_args s) m in
    record {
      tuple = record { concrete = c; covered = u };
      broken = f;
      first = λ earlier t b.
          first_before (λ t. failing (judge M s t)) (tuples M (M.sig_args s)) (tuples_ordered M (M.sig_args s)) e earlier
          (tuples_in M (M.sig_args s) earlier t.concrete t.covered) b;
    }

pub first_broken : (M : Model) (s : ℕ) (args : List ℕ) → FirstBroken M s args → broken_tuple M s ≡ some args
unfolding broken_tuple under
first_broken M s args f = go (broken_tuple M s) refl
  where
    go : (r : Option (List ℕ)) → broken_tuple M s ≡ r → broken_tuple M s ≡ some args
    go none e =
        absurd (false≢true
        (sym (first_none (λ t. failing (judge M s t)) (tuples M (M.sig_args s)) e (tuples_in M (M.sig_args s) args f.tuple.concrete f.tuple.covered)) ∙ f.broken))
    go (some t) e = which (before_or_same t args (long t g.tuple ∙ sym (long args f.tuple)))
      where
        g : FirstBroken M s t
        g = broken_first M s t e

        long : (u : List ℕ) → Below M (M.sig_args s) u → length u ≡ length (M.sig_args s)
        long u h = matching_length (subclass M) u (M.sig_args s) h.covered

        which : (t ≡ args) ⊎ (Before t args ⊎ Before args t) → broken_tuple M s ≡ some args
        which (inl q) = e ∙ ap (λ (u : List ℕ). some u) q
        which (inr (inl b)) = absurd (false≢true (sym (f.first t g.tuple b) ∙ g.broken))
        which (inr (inr b)) = absurd (false≢true (sym (g.first args f.tuple b) ∙ f.broken))
