-- Laws of `specs/Bounded`: what a passed or failed test over a list says of its elements, by membership and by place, and back.
-- Assumes nothing.
use Prim.Native.Nat.{ℕ, zero, suc, ◌+◌, ◌<◌, ◌≤◌}
use native.Mathlib.Nat.{not-suc-le-zero, le_of_suc-le-suc, eq-or-lt_of_le}
use native.Mathlib.Numerals.{add-one}
use native.Mathlib.Omega.{arith}
use mathlib.Core.Path.{◌≡◌, refl, sym, ap, ap₂, subst, ◌∙◌}
use mathlib.Core.Bool.{Bool, true, false, ◌&&◌, ◌||◌, false≢true, and-true, and_assoc, or-false, or_assoc}
use mathlib.Core.Logic.{◌⊎◌, inl, inr}
use mathlib.Core.List.Memᴰ
use mathlib.Core.List.{List, [], ◌∷◌, ◌++◌, append-nil, reverse, reverse_aux, reverse-cons, reverse-reverse, Memᴰ}
use mathlib.Core.Option.{Option, none, some}
use lib.ListN.{length, get_or, take, drop, length-append, get_or-append}
use lib.Seq.{get_or_at, take-suc}
use Rattle.rules.specs.Bounded.{upto, every, any, keep, first, matching}

-- a test's two values, with the equation
pub test : (t : Bool) → (t ≡ true) ⊎ (t ≡ false)
test true = inl refl
test false = inr refl

-- two tests that pass together are equal
pub agree : (a b : Bool) → (a ≡ true → b ≡ true) → (b ≡ true → a ≡ true) → a ≡ b
agree true b h k = sym (h refl)
agree false true h k = k refl
agree false false h k = refl

pub and_left : (a b : Bool) → (a && b) ≡ true → a ≡ true
and_left true b e = refl
and_left false b e = e

pub and_right : (a b : Bool) → (a && b) ≡ true → b ≡ true
and_right true b e = e
and_right false b e = absurd (false≢true e)

pub and_both : (a b : Bool) → a ≡ true → b ≡ true → (a && b) ≡ true
and_both true b p q = q
and_both false b p q = p

pub and_swap : (a b c : Bool) → (a && b && c) ≡ (a && c && b)
and_swap true true c = sym (and-true c)
and_swap true false true = refl
and_swap true false false = refl
and_swap false b c = refl

pub or_cases : (a b : Bool) → (a || b) ≡ true → (a ≡ true) ⊎ (b ≡ true)
or_cases true b e = inl refl
or_cases false b e = inr e

pub or_left : (a b : Bool) → a ≡ true → (a || b) ≡ true
or_left true b e = refl
or_left false b e = absurd (false≢true e)

pub or_right : (a b : Bool) → b ≡ true → (a || b) ≡ true
or_right true b e = refl
or_right false b e = e

pub or_none : (a b : Bool) → a ≡ false → b ≡ false → (a || b) ≡ false
or_none true b p q = p
or_none false b p q = q

module _ {A : Type 0} where
  -- membership from the element and back, for each of the list tests
  pub every_mem : (p : A → Bool) (xs : List A) → every p xs ≡ true → {x : A} → Memᴰ x xs → p x ≡ true
  unfolding every
  every_mem p [] e h = absurd (Memᴰ.not-nil h)
  every_mem p (y ∷ ys) e (Memᴰ.head q) = ap p q ∙ and_left (p y) (every p ys) e
  every_mem p (y ∷ ys) e (Memᴰ.tail m) = every_mem p ys (and_right (p y) (every p ys) e) m

  pub every_from : (p : A → Bool) (xs : List A) → ((x : A) → Memᴰ x xs → p x ≡ true) → every p xs ≡ true
  unfolding every
  every_from p [] h = refl
  every_from p (y ∷ ys) h =
      and_both (p y) (every p ys) (h y (Memᴰ.head refl)) (every_from p ys (λ x m. h x (Memᴰ.tail m)))

  pub every_fails : (p : A → Bool) (xs : List A) → every p xs ≡ false → (x : A) × Memᴰ x xs × (p x ≡ false)
  unfolding every
  every_fails p [] e = absurd (false≢true (sym e))
  every_fails p (y ∷ ys) e = go (test (p y)) (λ q. every_fails p ys q)
    where
      go : (p y ≡ true) ⊎ (p y ≡ false) → (every p ys ≡ false → (x : A) × Memᴰ x ys × (p x ≡ false)) → (x : A) × Memᴰ x (y ∷ ys) × (p x ≡ false)
      go (inl h) rest = let (x, m, q) = rest (rw h at e) in (x, Memᴰ.tail m, q)
      go (inr h) rest = (y, Memᴰ.head refl, h)

  pub get_d_mem : (xs : List A) (i : ℕ) (d : A) → i < length xs → Memᴰ (get_or xs i d) xs
  get_d_mem [] i d h = absurd (not-suc-le-zero h)
  get_d_mem (x ∷ xs) zero d h = Memᴰ.head refl
  get_d_mem (x ∷ xs) (suc i) d h = Memᴰ.tail (get_d_mem xs i d (le_of_suc-le-suc h))

  pub mem_length : (xs : List A) {x : A} → Memᴰ x xs → 0 < length xs
  mem_length [] m = absurd (Memᴰ.not-nil m)
  mem_length (y ∷ ys) m = omega arith

  pub any_mem : (p : A → Bool) (xs : List A) → any p xs ≡ true → (x : A) × Memᴰ x xs × (p x ≡ true)
  unfolding any
  any_mem p [] e = absurd (false≢true e)
  any_mem p (y ∷ ys) e = go (or_cases (p y) (any p ys) e) (λ r. any_mem p ys r)
    where
      go : (p y ≡ true) ⊎ (any p ys ≡ true) → (any p ys ≡ true → (x : A) × Memᴰ x ys × (p x ≡ true))
          → (x : A) × Memᴰ x (y ∷ ys) × (p x ≡ true)
      go (inl q) rest = (y, Memᴰ.head refl, q)
      go (inr r) rest = let (x, m, q) = rest r in (x, Memᴰ.tail m, q)

  pub any_from : (p : A → Bool) (xs : List A) {x : A} → Memᴰ x xs → p x ≡ true → any p xs ≡ true
  unfolding any
  any_from p [] h e = absurd (Memᴰ.not-nil h)
  any_from p (y ∷ ys) (Memᴰ.head q) e = or_left (p y) (any p ys) (ap p (sym q) ∙ e)
  any_from p (y ∷ ys) (Memᴰ.tail m) e = or_right (p y) (any p ys) (any_from p ys m e)

  pub any_none : (p : A → Bool) (xs : List A) → ((x : A) → Memᴰ x xs → p x ≡ false) → any p xs ≡ false
  unfolding any
  any_none p [] h = refl
  any_none p (y ∷ ys) h =
      or_none (p y) (any p ys) (h y (Memᴰ.head refl)) (any_none p ys (λ x m. h x (Memᴰ.tail m)))

  pub any_fails : (p : A → Bool) (xs : List A) → any p xs ≡ false → {x : A} → Memᴰ x xs → p x ≡ false
  any_fails p xs e {x} m = go (test (p x))
    where
      go : (p x ≡ true) ⊎ (p x ≡ false) → p x ≡ false
      go (inl h) = absurd (false≢true (sym e ∙ any_from p xs m h))
      go (inr h) = h

  pub keep_hit : (p : A → Bool) (y : A) (ys : List A) → p y ≡ true → keep p (y ∷ ys) ≡ y ∷ keep p ys
  unfolding keep
  keep_hit p y ys e = rw e

  pub keep_miss : (p : A → Bool) (y : A) (ys : List A) → p y ≡ false → keep p (y ∷ ys) ≡ keep p ys
  unfolding keep
  keep_miss p y ys e = rw e

  pub keep_mem : (p : A → Bool) (xs : List A) {x : A} → Memᴰ x (keep p xs) → Memᴰ x xs × (p x ≡ true)
  unfolding keep
  keep_mem p [] h = absurd (Memᴰ.not-nil h)
  keep_mem p (y ∷ ys) {x} h = go (test (p y)) (λ m. keep_mem p ys m)
    where
      hit : p y ≡ true → (Memᴰ x (keep p ys) → Memᴰ x ys × (p x ≡ true)) → (x ≡ y) ⊎ Memᴰ x (keep p ys)
          → Memᴰ x (y ∷ ys) × (p x ≡ true)
      hit e rest (inl q) = (Memᴰ.head q, ap p q ∙ e)
      hit e rest (inr m) = (Memᴰ.tail (rest m).0, (rest m).1)

      go : (p y ≡ true) ⊎ (p y ≡ false) → (Memᴰ x (keep p ys) → Memᴰ x ys × (p x ≡ true)) → Memᴰ x (y ∷ ys) × (p x ≡ true)
      go (inl e) rest = hit e rest (Memᴰ.cases_cons (rw (keep_hit p y ys e) at h))
      go (inr e) rest = let r = rest (rw (keep_miss p y ys e) at h) in (Memᴰ.tail r.0, r.1)

  pub keep_in : (p : A → Bool) (xs : List A) {x : A} → Memᴰ x xs → p x ≡ true → Memᴰ x (keep p xs)
  keep_in p [] h e = absurd (Memᴰ.not-nil h)
  keep_in p (y ∷ ys) (Memᴰ.head q) e = rw (keep_hit p y ys (ap p (sym q) ∙ e)) (Memᴰ.head q)
  keep_in p (y ∷ ys) {x} (Memᴰ.tail m) e = go (test (p y)) (keep_in p ys m e)
    where
      go : (p y ≡ true) ⊎ (p y ≡ false) → Memᴰ x (keep p ys) → Memᴰ x (keep p (y ∷ ys))
      go (inl t) r = rw (keep_hit p y ys t) (Memᴰ.tail r)
      go (inr t) r = rw (keep_miss p y ys t) r

  pub keep_append : (p : A → Bool) (xs ys : List A) → keep p (xs ++ ys) ≡ keep p xs ++ keep p ys
  unfolding keep
  keep_append p [] ys = refl
  keep_append p (x ∷ xs) ys = go (test (p x)) (keep_append p xs ys)
    where
      go : (p x ≡ true) ⊎ (p x ≡ false) → keep p (xs ++ ys) ≡ keep p xs ++ keep p ys → keep p (x ∷ xs ++ ys) ≡ keep p (x ∷ xs) ++ keep p ys
      go (inl t) r = rw t (ap (λ (l : List A). x ∷ l) r)
      go (inr t) r = rw t r

  -- two tests that agree on the elements keep the same
  pub keep_all : (p : A → Bool) (xs : List A) → ((x : A) → Memᴰ x xs → p x ≡ true) → keep p xs ≡ xs
  unfolding keep
  keep_all p [] h = refl
  keep_all p (x ∷ xs) h = rw (h x (Memᴰ.head refl)) (ap (λ (l : List A). x ∷ l) (keep_all p xs (λ y m. h y (Memᴰ.tail m))))

  pub keep_agree : (p q : A → Bool) (xs : List A) → ((x : A) → Memᴰ x xs → p x ≡ q x) → keep p xs ≡ keep q xs
  unfolding keep
  keep_agree p q [] h = refl
  keep_agree p q (x ∷ xs) h = rw (h x (Memᴰ.head refl), keep_agree p q xs (λ y m. h y (Memᴰ.tail m)))

  -- keeping by one test and then by another is keeping by both
  pub keep_keep : (p q : A → Bool) (xs : List A) → keep q (keep p xs) ≡ keep (λ x. p x && q x) xs
  unfolding keep
  keep_keep p q [] = refl
  keep_keep p q (x ∷ xs) = go (test (p x)) (keep_keep p q xs)
    where
      go : (p x ≡ true) ⊎ (p x ≡ false) → keep q (keep p xs) ≡ keep (λ y. p y && q y) xs → keep q (keep p (x ∷ xs)) ≡ keep (λ y. p y && q y) (x ∷ xs)
      go (inl t) r = rw (t, r)
      go (inr t) r = rw (t, r)

  pub first_hit : (p : A → Bool) (y : A) (ys : List A) → p y ≡ true → first p (y ∷ ys) ≡ some y
  unfolding first
  first_hit p y ys e = rw e

  pub first_miss : (p : A → Bool) (y : A) (ys : List A) → p y ≡ false → first p (y ∷ ys) ≡ first p ys
  unfolding first
  first_miss p y ys e = rw e

  pub first_mem : (p : A → Bool) (xs : List A) {x : A} → first p xs ≡ some x → Memᴰ x xs × (p x ≡ true)
  unfolding first
  first_mem p [] {x} e = absurd (false≢true (cc))
  first_mem p (y ∷ ys) {x} e = go (test (p y)) (λ r. first_mem p ys r)
    where
      go : (p y ≡ true) ⊎ (p y ≡ false) → (first p ys ≡ some x → Memᴰ x ys × (p x ≡ true)) → Memᴰ x (y ∷ ys) × (p x ≡ true)
      go (inl t) rest = let q : x ≡ y = cc (first_hit p y ys t) in (Memᴰ.head q, ap p q ∙ t)
      go (inr t) rest = let r = rest (sym (first_miss p y ys t) ∙ e) in (Memᴰ.tail r.0, r.1)

  pub first_none : (p : A → Bool) (xs : List A) → first p xs ≡ none → {x : A} → Memᴰ x xs → p x ≡ false
  first_none p [] e h = absurd (Memᴰ.not-nil h)
  first_none p (y ∷ ys) e {x} h = go (test (p y)) (Memᴰ.cases_cons h) (λ r m. first_none p ys r m)
    where
      go : (p y ≡ true) ⊎ (p y ≡ false) → (x ≡ y) ⊎ Memᴰ x ys → (first p ys ≡ none → Memᴰ x ys → p x ≡ false) → p x ≡ false
      go (inl t) h rest = cc (first_hit p y ys t)
      go (inr t) (inl q) rest = ap p q ∙ t
      go (inr t) (inr m) rest = rest (sym (first_miss p y ys t) ∙ e) m

  pub none_first : (p : A → Bool) (xs : List A) → ((x : A) → Memᴰ x xs → p x ≡ false) → first p xs ≡ none
  unfolding first
  none_first p [] h = refl
  none_first p (y ∷ ys) h = first_miss p y ys (h y (Memᴰ.head refl)) ∙ none_first p ys (λ x m. h x (Memᴰ.tail m))

  pub first_agree : (p q : A → Bool) (xs : List A) → ((x : A) → Memᴰ x xs → p x ≡ q x) → first p xs ≡ first q xs
  unfolding first
  first_agree p q [] h = refl
  first_agree p q (x ∷ xs) h = rw (h x (Memᴰ.head refl), first_agree p q xs (λ y m. h y (Memᴰ.tail m)))

  -- a search over two lists is one over the second where the first has nothing
  pub first_append_none : (p : A → Bool) (xs ys : List A) → first p xs ≡ none → first p (xs ++ ys) ≡ first p ys
  first_append_none p [] ys e = refl
  first_append_none p (x ∷ xs) ys e = go (test (p x)) (λ r. first_append_none p xs ys r)
    where
      go : (p x ≡ true) ⊎ (p x ≡ false) → (first p xs ≡ none → first p (xs ++ ys) ≡ first p ys) → first p (x ∷ xs ++ ys) ≡ first p ys
      go (inl t) rest = cc (first_hit p x xs t)
      go (inr t) rest = first_miss p x (xs ++ ys) t ∙ rest (sym (first_miss p x xs t) ∙ e)

  pub first_append_some : (p : A → Bool) (xs ys : List A) {x : A} → first p xs ≡ some x → first p (xs ++ ys) ≡ some x
  unfolding first
  first_append_some p [] ys {x} e = cc
  first_append_some p (y ∷ ys) zs {x} e = go (test (p y)) (λ r. first_append_some p ys zs r)
    where
      go : (p y ≡ true) ⊎ (p y ≡ false) → (first p ys ≡ some x → first p (ys ++ zs) ≡ some x) → first p (y ∷ ys ++ zs) ≡ some x
      go (inl t) rest = cc (first_hit p y ys t, first_hit p y (ys ++ zs) t)
      go (inr t) rest = first_miss p y (ys ++ zs) t ∙ rest (sym (first_miss p y ys t) ∙ e)

-- The same by place, as a loop over the places has it.
module _ {A : Type 0} where
  pub every_places : (p : A → Bool) (xs : List A) (d : A) → ((i : ℕ) → i < length xs → p (get_or xs i d) ≡ true) → every p xs ≡ true
  unfolding every
  every_places p [] d h = refl
  every_places p (x ∷ xs) d h =
      and_both (p x) (every p xs) (h 0 (omega arith)) (every_places p xs d (λ i r. h (suc i) (omega (arith, r))))

  pub every_place : (p : A → Bool) (xs : List A) (d : A) → every p xs ≡ true → (i : ℕ) → i < length xs → p (get_or xs i d) ≡ true
  every_place p xs d e i h = every_mem p xs e (get_d_mem xs i d h)

  pub every_broken : (p : A → Bool) (xs : List A) (d : A) (i : ℕ) → i < length xs → p (get_or xs i d) ≡ false → every p xs ≡ false
  every_broken p xs d i h e = go (every p xs) refl
    where
      go : (t : Bool) → every p xs ≡ t → every p xs ≡ false
      go true q = absurd (false≢true (sym e ∙ every_place p xs d q i h))
      go false q = q

  pub any_places : (p : A → Bool) (xs : List A) (d : A) → ((i : ℕ) → i < length xs → p (get_or xs i d) ≡ false) → any p xs ≡ false
  unfolding any
  any_places p [] d h = refl
  any_places p (x ∷ xs) d h = or_none (p x) (any p xs) (h 0 (omega arith)) (any_places p xs d (λ i r. h (suc i) (omega (arith, r))))

  pub first_place : (p : A → Bool) (xs : List A) (d : A) (i : ℕ) → i < length xs → p (get_or xs i d) ≡ true
      → ((k : ℕ) → k < i → p (get_or xs k d) ≡ false) → first p xs ≡ some (get_or xs i d)
  first_place p [] d i h e low = absurd (not-suc-le-zero h)
  first_place p (x ∷ xs) d zero h e low = first_hit p x xs e
  first_place p (x ∷ xs) d (suc i) h e low =
      first_miss p x xs (low 0 (omega arith))
      ∙ first_place p xs d i (le_of_suc-le-suc h) e (λ k r. low (suc k) (omega (arith, r)))

  pub none_places : (p : A → Bool) (xs : List A) (d : A) → ((i : ℕ) → i < length xs → p (get_or xs i d) ≡ false) → first p xs ≡ none
  unfolding first
  none_places p [] d h = refl
  none_places p (x ∷ xs) d h = first_miss p x xs (h 0 (omega arith)) ∙ none_places p xs d (λ i r. h (suc i) (omega (arith, r)))

  pub any_agree : (p q : A → Bool) (xs : List A) → ((x : A) → Memᴰ x xs → p x ≡ q x) → any p xs ≡ any q xs
  unfolding any
  any_agree p q [] h = refl
  any_agree p q (x ∷ xs) h = ap₂ ◌||◌ (h x (Memᴰ.head refl)) (any_agree p q xs (λ y m. h y (Memᴰ.tail m)))

  any_snoc : (p : A → Bool) (xs : List A) (x : A) → any p (xs ++ (x ∷ [])) ≡ (any p xs || p x)
  unfolding any
  any_snoc p [] x = or-false (p x)
  any_snoc p (y ∷ ys) x = ap (λ (t : Bool). p y || t) (any_snoc p ys x) ∙ sym (or_assoc (p y) (any p ys) (p x))

  -- whether one of the first elements passes, with one more
  pub any_take : (p : A → Bool) (xs : List A) (d : A) (i : ℕ) → i < length xs → any p (take (i + 1) xs) ≡ (any p (take i xs) || p (get_or xs i d))
  any_take p xs d i h = rw (add-one i, take-suc xs i d h) (any_snoc p (take i xs) (get_or xs i d))

pub keep_upto_hit : (p : ℕ → Bool) (n : ℕ) → p n ≡ true → keep p (upto (n + 1)) ≡ keep p (upto n) ++ (n ∷ [])
unfolding upto keep
keep_upto_hit p n e = rw (add-one n, keep_append) (ap (λ (l : List ℕ). keep p (upto n) ++ l) (keep_hit p n [] e))

pub keep_upto_miss : (p : ℕ → Bool) (n : ℕ) → p n ≡ false → keep p (upto (n + 1)) ≡ keep p (upto n)
unfolding upto keep
keep_upto_miss p n e =
    rw (add-one n, keep_append) (ap (λ (l : List ℕ). keep p (upto n) ++ l) (keep_miss p n [] e) ∙ append-nil (keep p (upto n)))

pub keep_length : {A : Type 0} (p : A → Bool) (xs : List A) → length (keep p xs) ≤ length xs
unfolding keep
keep_length p [] = omega arith
keep_length {A} p (x ∷ xs) = go (test (p x)) (keep_length p xs)
  where
    go : (p x ≡ true) ⊎ (p x ≡ false) → length (keep p xs) ≤ length xs → length (keep p (x ∷ xs)) ≤ suc (length xs)
    go (inl e) h = rw (keep_hit p x xs e) (omega arith)
    go (inr e) h = rw (keep_miss p x xs e) (omega arith)

-- a test that passes only where another does keeps no more, and fewer where it fails at an element that the other keeps
module _ {A : Type 0} (p q : A → Bool) where
  -- with one element more, as many less as before
  keep_step : (less : ℕ) (x : A) (xs : List A) → (p x ≡ true → q x ≡ true) → less + length (keep p xs) ≤ length (keep q xs)
      → less + length (keep p (x ∷ xs)) ≤ length (keep q (x ∷ xs))
  keep_step less x xs sub h = go (test (p x)) (test (q x))
    where
      go : (p x ≡ true) ⊎ (p x ≡ false) → (q x ≡ true) ⊎ (q x ≡ false) → less + length (keep p (x ∷ xs)) ≤ length (keep q (x ∷ xs))
      go (inl e) (inl f) = rw (keep_hit p x xs e, keep_hit q x xs f) (omega arith)
      go (inl e) (inr f) = absurd (false≢true (sym f ∙ sub e))
      go (inr e) (inl f) = rw (keep_miss p x xs e, keep_hit q x xs f) (omega arith)
      go (inr e) (inr f) = rw (keep_miss p x xs e, keep_miss q x xs f) h

  keep_no_more : (xs : List A) → ((x : A) → Memᴰ x xs → p x ≡ true → q x ≡ true) → 0 + length (keep p xs) ≤ length (keep q xs)
  unfolding keep
  keep_no_more [] sub = omega arith
  keep_no_more (x ∷ xs) sub = keep_step 0 x xs (sub x (Memᴰ.head refl)) (keep_no_more xs (λ y m. sub y (Memᴰ.tail m)))

  pub keep_fewer : (xs : List A) → ((x : A) → Memᴰ x xs → p x ≡ true → q x ≡ true) → {y : A} → Memᴰ y xs → q y ≡ true → p y ≡ false
      → 1 + length (keep p xs) ≤ length (keep q xs)
  keep_fewer [] sub m f e = absurd (Memᴰ.not-nil m)
  keep_fewer (x ∷ xs) sub {y} m f e = at (Memᴰ.cases_cons m) (λ n. keep_fewer xs (λ z k. sub z (Memᴰ.tail k)) n f e)
    where
      at : (y ≡ x) ⊎ Memᴰ y xs → (Memᴰ y xs → 1 + length (keep p xs) ≤ length (keep q xs)) → 1 + length (keep p (x ∷ xs)) ≤ length (keep q (x ∷ xs))
      at (inl s) later =
          rw (keep_miss p x xs (ap p (sym s) ∙ e), keep_hit q x xs (ap q (sym s) ∙ f)) (omega (arith, keep_no_more xs (λ z k. sub z (Memᴰ.tail k))))
      at (inr n) later = keep_step 1 x xs (sub x (Memᴰ.head refl)) (later n)

pub upto_below : (n : ℕ) {k : ℕ} → Memᴰ k (upto n) → k < n
unfolding upto
upto_below zero h = absurd (Memᴰ.not-nil h)
upto_below (suc n) {k} h = go (Memᴰ.append_cases (upto n) h) (λ m. upto_below n m)
  where
    go : Memᴰ k (upto n) ⊎ Memᴰ k (n ∷ []) → (Memᴰ k (upto n) → k < n) → k < suc n
    go (inl m) rest = let h : k < n = rest m in omega arith
    go (inr m) rest = let h : k ≡ n = Memᴰ.eq_of_singleton m in omega arith

pub below_upto : (n k : ℕ) → k < n → Memᴰ k (upto n)
unfolding upto
below_upto zero k h = absurd (not-suc-le-zero h)
below_upto (suc n) k h = go (eq-or-lt_of_le (le_of_suc-le-suc h)) (λ r. below_upto n k r)
  where
    go : (k ≡ n) ⊎ (k < n) → (k < n → Memᴰ k (upto n)) → Memᴰ k (upto n ++ (n ∷ []))
    go (inl q) rest = Memᴰ.append_right (upto n) (Memᴰ.head q)
    go (inr r) rest = Memᴰ.append_left (n ∷ []) (rest r)

pub length_upto : (n : ℕ) → length (upto n) ≡ n
unfolding upto
length_upto zero = refl
length_upto (suc n) = length-append (upto n) (n ∷ []) ∙ omega (arith, length_upto n)

pub keep_upto_length : (p : ℕ → Bool) (n : ℕ) → length (keep p (upto n)) ≤ n
keep_upto_length p n = omega (arith, keep_length p (upto n), length_upto n)

pub get_d_upto : (n k d : ℕ) → k < n → get_or (upto n) k d ≡ k
unfolding upto
get_d_upto zero k d h = absurd (not-suc-le-zero h)
get_d_upto (suc n) k d h = go (eq-or-lt_of_le (le_of_suc-le-suc h)) (λ r. get_d_upto n k d r)
  where
    go : (k ≡ n) ⊎ (k < n) → (k < n → get_or (upto n) k d ≡ k) → get_or (upto n ++ (n ∷ [])) k d ≡ k
    go (inl q) rest = rw q (get_or_at (upto n) n [] d n (length_upto n))
    go (inr r) rest = get_or-append (upto n) (n ∷ []) d k (rw (length_upto n) r) ∙ rest r

-- an element of a list is one of the list turned round, and back
module _ {A : Type 0} where
  pub mem_reverse : (xs : List A) {x : A} → Memᴰ x (reverse xs) → Memᴰ x xs
  mem_reverse [] m = m
  mem_reverse (y ∷ ys) {x} m =
      go (Memᴰ.append_cases (reverse ys) (subst (λ (l : List A). Memᴰ x l) (reverse-cons y ys) m)) (λ k. mem_reverse ys k)
    where
      go : Memᴰ x (reverse ys) ⊎ Memᴰ x (y ∷ []) → (Memᴰ x (reverse ys) → Memᴰ x ys) → Memᴰ x (y ∷ ys)
      go (inl k) rest = Memᴰ.tail (rest k)
      go (inr k) rest = Memᴰ.head (Memᴰ.eq_of_singleton k)

  pub reverse_mem : (xs : List A) {x : A} → Memᴰ x xs → Memᴰ x (reverse xs)
  reverse_mem xs {x} m = mem_reverse (reverse xs) (subst (λ (l : List A). Memᴰ x l) (sym (reverse-reverse xs)) m)

-- each element stands in the relation to the later ones
module _ {A : Type 0} where
  abbrev pub Ordered : (A → A → Type 0) → List A → Type 0
  Ordered R [] = Unit {0}
  Ordered R (x ∷ xs) = ((y : A) → Memᴰ y xs → R x y) × Ordered R xs

  module _ (R : A → A → Type 0) where
    pub ordered_append : (xs ys : List A) → Ordered R xs → Ordered R ys → ((x y : A) → Memᴰ x xs → Memᴰ y ys → R x y) → Ordered R (xs ++ ys)
    ordered_append [] ys a b h = b
    ordered_append (x ∷ xs) ys a b h =
        (λ y m. one y (Memᴰ.append_cases xs m), ordered_append xs ys a.1 b (λ x y m n. h x y (Memᴰ.tail m) n))
      where
        one : (y : A) → Memᴰ y xs ⊎ Memᴰ y ys → R x y
        one y (inl m) = a.0 y m
        one y (inr m) = h x y (Memᴰ.head refl) m

    -- one more at the end
    ordered_snoc : (xs : List A) (x : A) → Ordered R xs → ((y : A) → Memᴰ y xs → R y x) → Ordered R (xs ++ (x ∷ []))
    ordered_snoc xs x a h =
        ordered_append xs (x ∷ []) a (λ y m. absurd (Memᴰ.not-nil m), tt)
        (λ y z m n. subst (λ (k : A). R y k) (sym (Memᴰ.eq_of_singleton n)) (h y m))

    pub ordered_keep : (p : A → Bool) (xs : List A) → Ordered R xs → Ordered R (keep p xs)
    unfolding keep
    ordered_keep p [] a = tt
    ordered_keep p (x ∷ xs) a = go (test (p x)) (ordered_keep p xs a.1)
      where
        go : (p x ≡ true) ⊎ (p x ≡ false) → Ordered R (keep p xs) → Ordered R (keep p (x ∷ xs))
        go (inl e) rest = rw (keep_hit p x xs e) (λ y m. a.0 y (keep_mem p xs m).0, rest)
        go (inr e) rest = rw (keep_miss p x xs e) rest

  pub ordered_reverse : (R : A → A → Type 0) (xs : List A) → Ordered R xs → Ordered (λ x y. R y x) (reverse xs)
  ordered_reverse R [] a = tt
  ordered_reverse R (x ∷ xs) a =
      subst (λ (l : List A). Ordered (λ x y. R y x) l) (sym (reverse-cons x xs))
      (ordered_snoc (λ x y. R y x) (reverse xs) x (ordered_reverse R xs a.1) (λ y m. a.0 y (mem_reverse xs m)))

-- each element is below the later ones; or above them
abbrev pub Rising : List ℕ → Type 0
Rising xs = Ordered ◌<◌ xs

abbrev pub Falling : List ℕ → Type 0
Falling xs = Ordered (λ x y. y < x) xs

pub rising_upto : (n : ℕ) → Rising (upto n)
unfolding upto
rising_upto zero = tt
rising_upto (suc n) = ordered_snoc ◌<◌ (upto n) n (rising_upto n) (λ y m. upto_below n m)

-- The lowest number below n at which a test passes: there is none, or it passes there and at no lower one.
pub lowest_none : (p : ℕ → Bool) (n : ℕ) → first p (upto n) ≡ none → (k : ℕ) → k < n → p k ≡ false
lowest_none p n e k h = first_none p (upto n) e (below_upto n k h)

pub none_lowest : (p : ℕ → Bool) (n : ℕ) → ((k : ℕ) → k < n → p k ≡ false) → first p (upto n) ≡ none
none_lowest p n h = none_first p (upto n) (λ k m. h k (upto_below n m))

pub some_lowest : (p : ℕ → Bool) (n k : ℕ) → k < n → p k ≡ true → ((j : ℕ) → j < k → p j ≡ false) → first p (upto n) ≡ some k
unfolding upto
some_lowest p zero k h e low = absurd (not-suc-le-zero h)
some_lowest p (suc n) k h e low = go (eq-or-lt_of_le (le_of_suc-le-suc h)) (λ r. some_lowest p n k r e low)
  where
    go : (k ≡ n) ⊎ (k < n) → (k < n → first p (upto n) ≡ some k) → first p (upto n ++ (n ∷ [])) ≡ some k
    go (inl q) rest =
        first_append_none p (upto n) (n ∷ []) (none_lowest p n (λ j r. low j (rw q r)))
        ∙ first_hit p n [] (ap p (sym q) ∙ e)
        ∙ ap (λ (x : ℕ). some x) (sym q)
    go (inr r) rest = first_append_some p (upto n) (n ∷ []) (rest r)

pub lowest_some : (p : ℕ → Bool) (n k : ℕ) → first p (upto n) ≡ some k → (k < n) × (p k ≡ true) × ((j : ℕ) → j < k → p j ≡ false)
unfolding upto first
lowest_some p zero k e = absurd (false≢true (cc))
lowest_some p (suc n) k e = go (first p (upto n)) refl (λ r. lowest_some p n k r)
  where
    last : first p (upto n) ≡ none → (p n ≡ true) ⊎ (p n ≡ false) → (k < suc n) × (p k ≡ true) × ((j : ℕ) → j < k → p j ≡ false)
    last q (inl t) =
        let same : k ≡ n = cc (first_append_none p (upto n) (n ∷ []) q, first_hit p n [] t) in
        (omega arith, ap p same ∙ t, λ j h. lowest_none p n q j (rw same at h))
    last q (inr t) = absurd (false≢true (cc (first_append_none p (upto n) (n ∷ []) q, first_miss p n [] t)))

    go : (r : Option ℕ) → first p (upto n) ≡ r → (first p (upto n) ≡ some k → (k < n) × (p k ≡ true) × ((j : ℕ) → j < k → p j ≡ false))
        → (k < suc n) × (p k ≡ true) × ((j : ℕ) → j < k → p j ≡ false)
    go none q rest = last q (test (p n))
    go (some j) q rest =
        let same : j ≡ k = cc (first_append_some p (upto n) (n ∷ []) q) in
        let (h, t, low) = rest (q ∙ ap (λ (x : ℕ). some x) same) in
        (omega (arith, h), t, low)

-- `matching` says that two lists are equally long and the test passes at each place.
module _ {A B : Type 0} where
  pub matching_length : (p : A → B → Bool) (xs : List A) (ys : List B) → matching p xs ys ≡ true → length xs ≡ length ys
  unfolding matching
  matching_length p [] [] e = refl
  matching_length p [] (y ∷ ys) e = absurd (false≢true e)
  matching_length p (x ∷ xs) [] e = absurd (false≢true e)
  matching_length p (x ∷ xs) (y ∷ ys) e = ap suc (matching_length p xs ys (and_right (p x y) (matching p xs ys) e))

  pub matching_at : (p : A → B → Bool) (xs : List A) (ys : List B) (d : A) (d' : B) → matching p xs ys ≡ true → (i : ℕ) → i < length xs
      → p (get_or xs i d) (get_or ys i d') ≡ true
  unfolding matching
  matching_at p [] ys d d' e i h = absurd (not-suc-le-zero h)
  matching_at p (x ∷ xs) [] d d' e i h = absurd (false≢true e)
  matching_at p (x ∷ xs) (y ∷ ys) d d' e zero h = and_left (p x y) (matching p xs ys) e
  matching_at p (x ∷ xs) (y ∷ ys) d d' e (suc i) h =
      matching_at p xs ys d d' (and_right (p x y) (matching p xs ys) e) i (le_of_suc-le-suc h)

  pub matching_from : (p : A → B → Bool) (xs : List A) (ys : List B) (d : A) (d' : B) → length xs ≡ length ys
      → ((i : ℕ) → i < length xs → p (get_or xs i d) (get_or ys i d') ≡ true) → matching p xs ys ≡ true
  unfolding matching
  matching_from p [] [] d d' e h = refl
  matching_from p [] (y ∷ ys) d d' e h = let z : ◌≡◌ {A = ℕ} 0 (suc (length ys)) = e in absurd (omega arith)
  matching_from p (x ∷ xs) [] d d' e h = let z : ◌≡◌ {A = ℕ} (suc (length xs)) 0 = e in absurd (omega arith)
  matching_from p (x ∷ xs) (y ∷ ys) d d' e h =
      and_both (p x y) (matching p xs ys) (h 0 (omega arith))
      (matching_from p xs ys d d' (omega (arith, e)) (λ i r. h (suc i) (omega (arith, r))))

  pub matching_broken : (p : A → B → Bool) (xs : List A) (ys : List B) (d : A) (d' : B) (i : ℕ) → i < length xs
      → p (get_or xs i d) (get_or ys i d') ≡ false → matching p xs ys ≡ false
  matching_broken p xs ys d d' i h e = go (matching p xs ys) refl
    where
      go : (t : Bool) → matching p xs ys ≡ t → matching p xs ys ≡ false
      go true q = absurd (false≢true (sym e ∙ matching_at p xs ys d d' q i h))
      go false q = q

  -- `matching` goes with taking, dropping and reversing both lists
  pub matching_take : (p : A → B → Bool) (n : ℕ) (xs : List A) (ys : List B) → matching p xs ys ≡ true → matching p (take n xs) (take n ys) ≡ true
  unfolding matching
  matching_take p zero xs ys e = refl
  matching_take p (suc n) [] [] e = refl
  matching_take p (suc n) [] (y ∷ ys) e = absurd (false≢true e)
  matching_take p (suc n) (x ∷ xs) [] e = absurd (false≢true e)
  matching_take p (suc n) (x ∷ xs) (y ∷ ys) e =
      and_both (p x y) (matching p (take n xs) (take n ys)) (and_left (p x y) (matching p xs ys) e)
      (matching_take p n xs ys (and_right (p x y) (matching p xs ys) e))

  pub matching_drop : (p : A → B → Bool) (n : ℕ) (xs : List A) (ys : List B) → matching p xs ys ≡ true → matching p (drop n xs) (drop n ys) ≡ true
  unfolding matching
  matching_drop p zero xs ys e = e
  matching_drop p (suc n) [] [] e = refl
  matching_drop p (suc n) [] (y ∷ ys) e = absurd (false≢true e)
  matching_drop p (suc n) (x ∷ xs) [] e = absurd (false≢true e)
  matching_drop p (suc n) (x ∷ xs) (y ∷ ys) e = matching_drop p n xs ys (and_right (p x y) (matching p xs ys) e)

  matching_onto : (p : A → B → Bool) (xs us : List A) (ys vs : List B) → matching p xs ys ≡ true → matching p us vs ≡ true
      → matching p (reverse_aux xs us) (reverse_aux ys vs) ≡ true
  unfolding matching
  matching_onto p [] us [] vs e f = f
  matching_onto p [] us (y ∷ ys) vs e f = absurd (false≢true e)
  matching_onto p (x ∷ xs) us [] vs e f = absurd (false≢true e)
  matching_onto p (x ∷ xs) us (y ∷ ys) vs e f =
      matching_onto p xs (x ∷ us) ys (y ∷ vs) (and_right (p x y) (matching p xs ys) e)
      (and_both (p x y) (matching p us vs) (and_left (p x y) (matching p xs ys) e) f)

  pub matching_reverse : (p : A → B → Bool) (xs : List A) (ys : List B) → matching p xs ys ≡ true → matching p (reverse xs) (reverse ys) ≡ true
  unfolding matching
  matching_reverse p xs ys e = matching_onto p xs [] ys [] e refl

  -- one more element in front of which all match: it is compared with the next element of the other list
  pub matching_snoc : (p : A → B → Bool) (xs : List A) (a : A) (ys : List B) (d : B) → length xs < length ys
      → matching p (xs ++ (a ∷ [])) (take (length (xs ++ (a ∷ []))) ys) ≡ (matching p xs (take (length xs) ys) && p a (get_or ys (length xs) d))
  unfolding matching
  matching_snoc p [] a [] d h = absurd (not-suc-le-zero h)
  matching_snoc p [] a (y ∷ ys) d h = and-true (p a y)
  matching_snoc p (x ∷ xs) a [] d h = absurd (not-suc-le-zero h)
  matching_snoc p (x ∷ xs) a (y ∷ ys) d h =
      ap (λ (t : Bool). p x y && t) (matching_snoc p xs a ys d (le_of_suc-le-suc h))
      ∙ sym (and_assoc (p x y) (matching p xs (take (length xs) ys)) (p a (get_or ys (length xs) d)))

  -- a list in two parts is matched part by part
  pub matching_append : (p : A → B → Bool) (xs us : List A) (ys : List B)
      → matching p (xs ++ us) ys ≡ (matching p xs (take (length xs) ys) && matching p us (drop (length xs) ys))
  unfolding matching
  matching_append p [] us ys = refl
  matching_append p (x ∷ xs) us [] = refl
  matching_append p (x ∷ xs) us (y ∷ ys) =
      ap (λ (t : Bool). p x y && t) (matching_append p xs us ys)
      ∙ sym (and_assoc (p x y) (matching p xs (take (length xs) ys)) (matching p us (drop (length xs) ys)))

  -- of two elements that fare alike at a place, one may stand there for the other
  pub matching_swap : (p : A → B → Bool) (xs : List A) (a b : A) (us : List A) (ys : List B) (d : B) → p a (get_or ys (length xs) d) ≡ p b (get_or ys (length xs) d)
      → matching p (xs ++ (a ∷ us)) ys ≡ matching p (xs ++ (b ∷ us)) ys
  unfolding matching
  matching_swap p [] a b us [] d e = refl
  matching_swap p [] a b us (y ∷ ys) d e = ap (λ (t : Bool). t && matching p us ys) e
  matching_swap p (x ∷ xs) a b us [] d e = refl
  matching_swap p (x ∷ xs) a b us (y ∷ ys) d e = ap (λ (t : Bool). p x y && t) (matching_swap p xs a b us ys d e)

-- A relation that is reflexive or transitive where it has to be is so place by place.
module _ {A : Type 0} where
  pub matching_refl : (p : A → A → Bool) (xs : List A) → ((x : A) → Memᴰ x xs → p x x ≡ true) → matching p xs xs ≡ true
  unfolding matching
  matching_refl p [] h = refl
  matching_refl p (x ∷ xs) h =
      and_both (p x x) (matching p xs xs) (h x (Memᴰ.head refl)) (matching_refl p xs (λ y m. h y (Memᴰ.tail m)))

  pub matching_trans : {B C : Type 0} (p : A → B → Bool) (q : B → C → Bool) (r : A → C → Bool) (xs : List A) (ys : List B) (zs : List C)
      → ((a : A) (b : B) (c : C) → Memᴰ a xs → p a b ≡ true → q b c ≡ true → r a c ≡ true)
      → matching p xs ys ≡ true → matching q ys zs ≡ true → matching r xs zs ≡ true
  unfolding matching
  matching_trans p q r [] [] [] h e f = refl
  matching_trans p q r [] [] (z ∷ zs) h e f = f
  matching_trans p q r [] (y ∷ ys) zs h e f = absurd (false≢true e)
  matching_trans p q r (x ∷ xs) [] zs h e f = absurd (false≢true e)
  matching_trans p q r (x ∷ xs) (y ∷ ys) [] h e f = absurd (false≢true f)
  matching_trans p q r (x ∷ xs) (y ∷ ys) (z ∷ zs) h e f =
      and_both (r x z) (matching r xs zs)
      (h x y z (Memᴰ.head refl) (and_left (p x y) (matching p xs ys) e) (and_left (q y z) (matching q ys zs) f))
      (matching_trans p q r xs ys zs (λ a b c m. h a b c (Memᴰ.tail m)) (and_right (p x y) (matching p xs ys) e) (and_right (q y z) (matching q ys zs) f))

  pub matching_antisym : (p : A → A → Bool) (xs ys : List A) → ((x y : A) → Memᴰ x xs → Memᴰ y ys → p x y ≡ true → p y x ≡ true → x ≡ y)
      → matching p xs ys ≡ true → matching p ys xs ≡ true → xs ≡ ys
  unfolding matching
  matching_antisym p [] [] h e f = refl
  matching_antisym p [] (y ∷ ys) h e f = absurd (false≢true e)
  matching_antisym p (x ∷ xs) [] h e f = absurd (false≢true e)
  matching_antisym p (x ∷ xs) (y ∷ ys) h e f =
      ap₂ (λ (z : A) (zs : List A). z ∷ zs)
      (h x y (Memᴰ.head refl) (Memᴰ.head refl) (and_left (p x y) (matching p xs ys) e) (and_left (p y x) (matching p ys xs) f))
      (matching_antisym p xs ys (λ a b m n. h a b (Memᴰ.tail m) (Memᴰ.tail n)) (and_right (p x y) (matching p xs ys) e) (and_right (p y x) (matching p ys xs) f))

  -- where the test passes at equal elements alone, lists that match are equal
  pub matching_equal : (p : A → A → Bool) (xs ys : List A) → ((x y : A) → p x y ≡ true → x ≡ y) → matching p xs ys ≡ true → xs ≡ ys
  unfolding matching
  matching_equal p [] [] h e = refl
  matching_equal p [] (y ∷ ys) h e = absurd (false≢true e)
  matching_equal p (x ∷ xs) [] h e = absurd (false≢true e)
  matching_equal p (x ∷ xs) (y ∷ ys) h e =
      ap₂ ◌∷◌ (h x y (and_left (p x y) (matching p xs ys) e)) (matching_equal p xs ys h (and_right (p x y) (matching p xs ys) e))
