-- What `select` makes of a list of methods: what it finds leads the list, and is the only one that does, wherever a search of the list begins; where it fails by 11
-- there are two rivals to name.
-- Assumes nothing.
use Prim.Native.Nat.{ℕ, ◌<◌}
use native.Mathlib.Omega.{arith}
use native.Mathlib.Nat.{not-suc-le-zero}
use mathlib.Core.Path.{◌≡◌, refl, sym, ap, ◌∙◌}
use mathlib.Core.Bool.{true, false, not, ◌||◌, false≢true}
use mathlib.Core.Logic.{◌⊎◌, inl, inr, ◌↔◌}
use mathlib.Core.List.Memᴰ
use mathlib.Core.List.{List, [], ◌∷◌, reverse, Memᴰ}
use mathlib.Core.Option.{Option, none, some}
use lib.Dec.{eqb}
use lib.ListN.{length, get_or}
use borrow.Author.Tests.{eqb-true, eq-eqb, not-true}
use Rattle.rules.specs.Bounded.{first}
use Rattle.rules.specs.Model.{Model, Wellformed}
use Rattle.rules.specs.Lookup.{found, missing, ambiguous, as_specific, leads, unbeaten, rivals, leader_or, select}
use Rattle.rules.proofs.Lists.{test, or_cases, or_left, or_right, every_mem, every_from, get_d_mem, mem_length, keep_mem, keep_in, first_mem, first_none, none_first, mem_reverse, reverse_mem}
use Rattle.rules.proofs.Order.{minimal}
use Rattle.rules.proofs.Subclass.{under_itself, under_trans, under_antisym}

pub as_specific_itself : (M : Model) (m : ℕ) → as_specific M m m ≡ true
unfolding as_specific
as_specific_itself M m = under_itself M (M.specialisers m)

-- what leads a list is as specific as each of its elements, itself included
pub leads_all : (M : Model) (ms : List ℕ) (m : ℕ) → leads M ms m ≡ true → (n : ℕ) → Memᴰ n ms → as_specific M m n ≡ true
unfolding leads
leads_all M ms m e n h = go (or_cases (eqb n m) (as_specific M m n) (every_mem (λ n. eqb n m || as_specific M m n) ms e h))
  where
    go : (eqb n m ≡ true) ⊎ (as_specific M m n ≡ true) → as_specific M m n ≡ true
    go (inl q) = rw (eqb-true n m q) (as_specific_itself M m)
    go (inr q) = q

pub all_leads : (M : Model) (ms : List ℕ) (m : ℕ) → ((n : ℕ) → Memᴰ n ms → as_specific M m n ≡ true) → leads M ms m ≡ true
unfolding leads
all_leads M ms m h = every_from (λ n. eqb n m || as_specific M m n) ms (λ n k. or_right (eqb n m) (as_specific M m n) (h n k))

pub unbeaten_alone : (M : Model) (ms : List ℕ) (m : ℕ) → unbeaten M ms m ≡ true → (n : ℕ) → Memᴰ n ms → (n ≡ m → ⊥) → as_specific M n m ≡ false
unfolding unbeaten
unbeaten_alone M ms m e n h d =
    go (or_cases (eqb n m) (not (as_specific M n m)) (every_mem (λ n. eqb n m || not (as_specific M n m)) ms e h))
  where
    go : (eqb n m ≡ true) ⊎ (not (as_specific M n m) ≡ true) → as_specific M n m ≡ false
    go (inl q) = absurd (d (eqb-true n m q))
    go (inr q) = not-true (as_specific M n m) q

pub alone_unbeaten : (M : Model) (ms : List ℕ) (m : ℕ) → ((n : ℕ) → Memᴰ n ms → (n ≡ m) ⊎ (as_specific M n m ≡ false)) → unbeaten M ms m ≡ true
unfolding unbeaten
alone_unbeaten M ms m h = every_from (λ n. eqb n m || not (as_specific M n m)) ms (λ n k. go n (h n k))
  where
    go : (n : ℕ) → (n ≡ m) ⊎ (as_specific M n m ≡ false) → (eqb n m || not (as_specific M n m)) ≡ true
    go n (inl q) = or_left (eqb n m) (not (as_specific M n m)) (eq-eqb n m q)
    go n (inr q) = or_right (eqb n m) (not (as_specific M n m)) (ap not q)

-- The three cases of `select`, by whether the list is empty and whether it has a leader.
pub select_found : (M : Model) (ms : List ℕ) (m : ℕ) → select M ms ≡ found m → Memᴰ m ms × (leads M ms m ≡ true)
unfolding select leader_or
select_found M [] m e = absurd (false≢true (cc))
select_found M (x ∷ xs) m e = go (first (leads M (x ∷ xs)) (x ∷ xs)) refl
  where
    go : (r : Option ℕ) → first (leads M (x ∷ xs)) (x ∷ xs) ≡ r → Memᴰ m (x ∷ xs) × (leads M (x ∷ xs) m ≡ true)
    go none q = absurd (false≢true (cc (ap (λ (r : Option ℕ). leader_or r (rivals M (x ∷ xs))) q)))
    go (some k) q =
        let same : k ≡ m = cc (ap (λ (r : Option ℕ). leader_or r (rivals M (x ∷ xs))) q) in
        first_mem (leads M (x ∷ xs)) (x ∷ xs) (q ∙ ap (λ (j : ℕ). some j) same)

pub select_missing : (M : Model) (ms : List ℕ) → select M ms ≡ missing → ms ≡ []
unfolding select leader_or
select_missing M [] e = refl
select_missing M (x ∷ xs) e = go (first (leads M (x ∷ xs)) (x ∷ xs)) refl
  where
    go : (r : Option ℕ) → first (leads M (x ∷ xs)) (x ∷ xs) ≡ r → x ∷ xs ≡ []
    go none q = absurd (false≢true (cc (ap (λ (r : Option ℕ). leader_or r (rivals M (x ∷ xs))) q)))
    go (some k) q = absurd (false≢true (cc (ap (λ (r : Option ℕ). leader_or r (rivals M (x ∷ xs))) q)))

-- and back: what a search for the leader makes of `select`
pub leader_selected : (M : Model) (ms : List ℕ) (m : ℕ) → first (leads M ms) ms ≡ some m → select M ms ≡ found m
unfolding select leader_or first
leader_selected M [] m e = absurd (false≢true (cc))
leader_selected M (x ∷ xs) m e = ap (λ (r : Option ℕ). leader_or r (rivals M (x ∷ xs))) e

pub none_selected : (M : Model) (ms : List ℕ) → 0 < length ms → first (leads M ms) ms ≡ none → select M ms ≡ leader_or none (rivals M ms)
unfolding select
none_selected M [] h e = absurd (not-suc-le-zero h)
none_selected M (x ∷ xs) h e = ap (λ (r : Option ℕ). leader_or r (rivals M (x ∷ xs))) e

pub select_ambiguous : (M : Model) (ms : List ℕ) (m n : ℕ) → select M ms ≡ ambiguous m n → (0 < length ms) × (first (leads M ms) ms ≡ none)
unfolding select leader_or
select_ambiguous M [] m n e = absurd (false≢true (cc))
select_ambiguous M (x ∷ xs) m n e = (omega arith, go (first (leads M (x ∷ xs)) (x ∷ xs)) refl)
  where
    go : (r : Option ℕ) → first (leads M (x ∷ xs)) (x ∷ xs) ≡ r → first (leads M (x ∷ xs)) (x ∷ xs) ≡ none
    go none q = q
    go (some k) q = absurd (false≢true (cc (ap (λ (r : Option ℕ). leader_or r (rivals M (x ∷ xs))) q)))

-- nothing is selected exactly where the list is empty
pub nothing_selected : (M : Model) (ms : List ℕ) → (select M ms ≡ missing) ↔ ((m : ℕ) → Memᴰ m ms → ⊥)
unfolding select
nothing_selected M ms = (λ e m h. Memᴰ.not-nil (rw (select_missing M ms e) at h), λ free. rw (empty ms free))
  where
    empty : (ms : List ℕ) → ((m : ℕ) → Memᴰ m ms → ⊥) → ms ≡ []
    empty [] free = refl
    empty (m ∷ ms) free = absurd (free m (Memᴰ.head refl))

-- and it is ambiguous exactly where there are some and none leads
pub none_leads : (M : Model) (ms : List ℕ)
    → ((m : ℕ) × (n : ℕ) × (select M ms ≡ ambiguous m n)) ↔ (((m : ℕ) × Memᴰ m ms) × ((m : ℕ) → Memᴰ m ms → leads M ms m ≡ true → ⊥))
unfolding leader_or
none_leads M ms = (λ (m, n, e). forth m n e, λ ((m, h), free). back m h free)
  where
    forth : (m n : ℕ) → select M ms ≡ ambiguous m n → ((m : ℕ) × Memᴰ m ms) × ((m : ℕ) → Memᴰ m ms → leads M ms m ≡ true → ⊥)
    forth m n e =
        let (one, free) = select_ambiguous M ms m n e in
        ((get_or ms 0 0, get_d_mem ms 0 0 one), λ k h l. false≢true (sym (first_none (leads M ms) ms free h) ∙ l))

    fails : (k : ℕ) → (leads M ms k ≡ true → ⊥) → (leads M ms k ≡ true) ⊎ (leads M ms k ≡ false) → leads M ms k ≡ false
    fails k free (inl e) = absurd (free e)
    fails k free (inr e) = e

    back : (m : ℕ) → Memᴰ m ms → ((m : ℕ) → Memᴰ m ms → leads M ms m ≡ true → ⊥) → (m : ℕ) × (n : ℕ) × (select M ms ≡ ambiguous m n)
    back m h free =
        (_, _, none_selected M ms (mem_length ms h) (none_first (leads M ms) ms (λ k i. fails k (free k i) (test (leads M ms k)))))

-- an element of the rivals is one of the list that none of the rest equals or beats, and back
pub rivals_mem : (M : Model) (ms : List ℕ) {m : ℕ} → Memᴰ m (rivals M ms) → Memᴰ m ms × (unbeaten M ms m ≡ true)
unfolding rivals
rivals_mem M ms h = let (k, u) = keep_mem (unbeaten M ms) (reverse ms) h in (mem_reverse ms k, u)

pub rivals_in : (M : Model) (ms : List ℕ) {m : ℕ} → Memᴰ m ms → unbeaten M ms m ≡ true → Memᴰ m (rivals M ms)
unfolding rivals
rivals_in M ms h u = keep_in (unbeaten M ms) (reverse ms) (reverse_mem ms h) u

-- methods of one function, in a bundle that has opened
module _ (M : Model) (w : Wellformed M) where
  pub specific_trans : (a b c : ℕ) → a < M.methods → as_specific M a b ≡ true → as_specific M b c ≡ true → as_specific M a c ≡ true
  unfolding as_specific
  specific_trans a b c h = under_trans M w (M.specialisers a) (M.specialisers b) (M.specialisers c) (w.specialisers_present a h)

  -- two with equal specialisers are one
  pub no_twin : (a b : ℕ) → a < M.methods → b < M.methods → M.function a ≡ M.function b → M.specialisers a ≡ M.specialisers b → a ≡ b
  no_twin a b p q g e =
      let below : ¬ (a < b) = λ l. w.no_twins b a q l (sym g) (sym e) in
      let above : ¬ (b < a) = λ l. w.no_twins a b p l g e in
      omega arith

  -- and so are two that are each at least as specific as the other
  pub specific_antisym : (a b : ℕ) → a < M.methods → b < M.methods → M.function a ≡ M.function b → as_specific M a b ≡ true → as_specific M b a ≡ true
      → a ≡ b
  unfolding as_specific
  specific_antisym a b p q g e r =
      no_twin a b p q g (under_antisym M w (M.specialisers a) (M.specialisers b) (w.specialisers_present a p) e r)

-- m is a method of function f
pub record MethodOf (M : Model) (f m : ℕ) : Type 0 where
  pub bound : m < M.methods
  pub of_function : M.function m ≡ f

module _ (M : Model) (w : Wellformed M) (f : ℕ) (ms : List ℕ) (each : (n : ℕ) → Memᴰ n ms → MethodOf M f n) where
  members_antisym : (m n : ℕ) → Memᴰ m ms → Memᴰ n ms → as_specific M m n ≡ true → as_specific M n m ≡ true → m ≡ n
  members_antisym m n h k = specific_antisym M w m n (each m h).bound (each n k).bound ((each m h).of_function ∙ sym (each n k).of_function)

  -- two that lead the list are one
  leading_unique : (m n : ℕ) → Memᴰ m ms → Memᴰ n ms → leads M ms m ≡ true → leads M ms n ≡ true → m ≡ n
  leading_unique m n h k p q = members_antisym m n h k (leads_all M ms m p n k) (leads_all M ms n q m h)

  -- so what leads it is selected, whether or not it is the first that was tried
  pub leading_selected : (m : ℕ) → Memᴰ m ms → leads M ms m ≡ true → select M ms ≡ found m
  leading_selected m h e = go (first (leads M ms) ms) refl
    where
      go : (r : Option ℕ) → first (leads M ms) ms ≡ r → select M ms ≡ found m
      go none q = absurd (false≢true (sym (first_none (leads M ms) ms q h) ∙ e))
      go (some k) q =
          let (l, t) = first_mem (leads M ms) ms q in
          leader_selected M ms m (q ∙ ap (λ (j : ℕ). some j) (leading_unique k m l h t e))

  -- below each of the list stands a rival
  rival_below : (c : ℕ) → Memᴰ c ms → (m : ℕ) × Memᴰ m (rivals M ms) × (as_specific M m c ≡ true)
  rival_below c h =
      let r =
      minimal (as_specific M) ms (as_specific_itself M) (λ a b c p. specific_trans M w a b c (each a p).bound) members_antisym ms (λ n k. k) c h in
      (r.least, rivals_in M ms r.member (alone_unbeaten M ms r.least r.alone), r.under)

  -- one rival alone would lead
  alone_leads : (m : ℕ) → rivals M ms ≡ m ∷ [] → leads M ms m ≡ true
  alone_leads m e = all_leads M ms m (λ n k. go n (rival_below n k))
    where
      go : (n : ℕ) → (k : ℕ) × Memᴰ k (rivals M ms) × (as_specific M k n ≡ true) → as_specific M m n ≡ true
      go n (k, h, s) = rw (sym (Memᴰ.eq_of_singleton (rw e at h))) s

  -- so where nothing leads there are two
  pub two_rivals : 0 < length ms → first (leads M ms) ms ≡ none → (a : ℕ) × (b : ℕ) × (rest : List ℕ) × (rivals M ms ≡ a ∷ b ∷ rest)
  two_rivals some-there free = go (rivals M ms) refl (rival_below (get_or ms 0 0) (get_d_mem ms 0 0 some-there))
    where
      go : (rs : List ℕ) → rivals M ms ≡ rs → (k : ℕ) × Memᴰ k (rivals M ms) × (as_specific M k (get_or ms 0 0) ≡ true)
          → (a : ℕ) × (b : ℕ) × (rest : List ℕ) × (rivals M ms ≡ a ∷ b ∷ rest)
      go [] r (k, m, u) = absurd (Memᴰ.not-nil (rw r at m))
      go (a ∷ []) r low =
          let (m, _) = rivals_mem M ms {m = a} (rw r (Memᴰ.head refl)) in
          absurd (false≢true (sym (first_none (leads M ms) ms free m) ∙ alone_leads a r))
      go (a ∷ b ∷ rest) r low = (a, b, rest, r)
