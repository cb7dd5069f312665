-- Lookup: what is found applies, leads and is the only one that does; none is found exactly when none applies; a lookup is ambiguous exactly when some apply and
-- none leads, and names the two newest rivals; narrowing the methods place by place leaves those that apply.
-- Assumes nothing.
use Prim.Native.Nat.{ℕ, ◌<◌, ◌≤◌}
use native.Mathlib.Omega.{arith}
use native.Mathlib.Nat.{le_of_eq}
use native.Mathlib.Decide.{ℕ_discrete}
use mathlib.Core.Path.{◌≡◌, refl, sym, ap, ap₂, ◌∙◌}
use mathlib.Core.Bool.{true, false, ◌&&◌, false≢true, and-true}
use mathlib.Core.Logic.{◌⊎◌, inl, inr, ◌↔◌}
use mathlib.Core.List.Memᴰ
use mathlib.Core.List.{List, [], ◌∷◌, ◌++◌, reverse, Memᴰ}
use mathlib.Core.Option.{none}
use lib.Dec.{eqb}
use lib.ListN.{length, get_or, take}
use lib.Seq.{take_all}
use borrow.Author.Tests.{eqb-true, eq-eqb}
use Rattle.rules.specs.Bounded.{upto, first, matching}
use Rattle.rules.specs.Model.{Model, Wellformed}
use Rattle.rules.specs.Subclass.{subclass, under}
use Rattle.rules.specs.Lookup.{Found, found, missing, ambiguous, applies, applicable, left, as_specific, leads, unbeaten, rivals, leader_or, lookup}
use Rattle.rules.proofs.Lists.{test, and_left, and_right, and_both, keep_mem, keep_in, matching_snoc, upto_below, below_upto, Rising, Falling, rising_upto, ordered_keep, ordered_reverse}
use Rattle.rules.proofs.Selection.{MethodOf, leads_all, all_leads, unbeaten_alone, alone_unbeaten, select_found, nothing_selected, none_leads, select_ambiguous, none_selected, rivals_mem, rivals_in, specific_antisym, two_rivals}

-- an applicable method of a function
pub record Candidate (M : Model) (f : ℕ) (args : List ℕ) (m : ℕ) : Type 0 where
  pub bound : m < M.methods
  pub of_function : M.function m ≡ f
  pub applying : applies M args m ≡ true

-- the candidate is at least as specific as every candidate
pub record Leader (M : Model) (f : ℕ) (args : List ℕ) (m : ℕ) : Type 0 where
  pub candidate : Candidate M f args m
  pub specific : (n : ℕ) → Candidate M f args n → as_specific M m n ≡ true

-- a candidate that no other candidate is at least as specific as
pub record Rival (M : Model) (f : ℕ) (args : List ℕ) (m : ℕ) : Type 0 where
  pub candidate : Candidate M f args m
  pub alone : (n : ℕ) → Candidate M f args n → (n ≡ m → ⊥) → as_specific M n m ≡ false

-- the two rivals with the highest numbers, the higher first
pub record NewestRivals (M : Model) (f : ℕ) (args : List ℕ) (m n : ℕ) : Type 0 where
  pub newest : Rival M f args m
  pub next : Rival M f args n
  pub higher : n < m
  pub others : (k : ℕ) → Rival M f args k → (k ≡ m) ⊎ (k ≤ n)

pub applicable_candidate : (M : Model) (f : ℕ) (args : List ℕ) {m : ℕ} → Memᴰ m (applicable M f args) → Candidate M f args m
unfolding applicable
applicable_candidate M f args {m} h =
    let (k, e) = keep_mem (λ m. eqb (M.function m) f && applies M args m) (upto M.methods) h in
    record {
      bound = upto_below M.methods k;
      of_function = eqb-true (M.function m) f (and_left (eqb (M.function m) f) (applies M args m) e);
      applying = and_right (eqb (M.function m) f) (applies M args m) e;
    }

pub candidate_applicable : (M : Model) (f : ℕ) (args : List ℕ) {m : ℕ} → Candidate M f args m → Memᴰ m (applicable M f args)
unfolding applicable
candidate_applicable M f args {m} c =
    keep_in (λ m. eqb (M.function m) f && applies M args m) (upto M.methods) (below_upto M.methods m c.bound)
    (and_both (eqb (M.function m) f) (applies M args m) (eq-eqb (M.function m) f c.of_function) c.applying)

leads_leader : (M : Model) (f : ℕ) (args : List ℕ) (m : ℕ) → Memᴰ m (applicable M f args) → leads M (applicable M f args) m ≡ true → Leader M f args m
leads_leader M f args m h e =
    record {
      candidate = applicable_candidate M f args h;
      specific = λ n c. leads_all M (applicable M f args) m e n (candidate_applicable M f args c);
    }

leader_leads : (M : Model) (f : ℕ) (args : List ℕ) (m : ℕ) → Leader M f args m → leads M (applicable M f args) m ≡ true
leader_leads M f args m l = all_leads M (applicable M f args) m (λ n k. l.specific n (applicable_candidate M f args k))

pub lookup_leader : (M : Model) (f : ℕ) (args : List ℕ) (m : ℕ) → lookup M f args ≡ found m → Leader M f args m
unfolding lookup
lookup_leader M f args m e = let (h, l) = select_found M (applicable M f args) m e in leads_leader M f args m h l

-- lookup fails by 10 exactly where no method applies (M 5.4)
pub lookup_missing : (M : Model) (f : ℕ) (args : List ℕ) → (lookup M f args ≡ missing) ↔ ((m : ℕ) → Candidate M f args m → ⊥)
unfolding lookup
lookup_missing M f args = (
  λ e m c. (nothing_selected M (applicable M f args)).0 e m (candidate_applicable M f args c),
  λ free. (nothing_selected M (applicable M f args)).1 (λ m h. free m (applicable_candidate M f args h)),
)

applicable_rising : (M : Model) (f : ℕ) (args : List ℕ) → Rising (applicable M f args)
unfolding applicable
applicable_rising M f args = ordered_keep ◌<◌ (λ m. eqb (M.function m) f && applies M args m) (upto M.methods) (rising_upto M.methods)

-- lookup fails by 11 exactly where a method applies and none leads (M 5.5)
pub lookup_ambiguous : (M : Model) (f : ℕ) (args : List ℕ)
    → ((m : ℕ) × (n : ℕ) × (lookup M f args ≡ ambiguous m n)) ↔ (((m : ℕ) × Candidate M f args m) × ((m : ℕ) → Leader M f args m → ⊥))
unfolding lookup
lookup_ambiguous M f args = (
  λ e. let ((m, h), free) = (none_leads M (applicable M f args)).0 e in
      ((m, applicable_candidate M f args h), λ k l. free k (candidate_applicable M f args l.candidate) (leader_leads M f args k l)),
  λ ((m, c), free). (none_leads M (applicable M f args)).1 ((m, candidate_applicable M f args c), λ k h e. free k (leads_leader M f args k h e)),
)

candidate_method : {M : Model} {f : ℕ} {args : List ℕ} {m : ℕ} → Candidate M f args m → MethodOf M f m
candidate_method c = record { bound = c.bound; of_function = c.of_function }

-- where an element of a falling list may stand
placed : (k a b : ℕ) (rest : List ℕ) → Falling (a ∷ b ∷ rest) → Memᴰ k (a ∷ b ∷ rest) → (k ≡ a) ⊎ (k ≤ b)
placed k a b rest falling h = at (Memᴰ.cases_cons h)
  where
    from : (k ≡ b) ⊎ Memᴰ k rest → k ≤ b
    from (inl s) = omega (arith, s)
    from (inr m) = omega (arith, falling.1.0 k m)

    at : (k ≡ a) ⊎ Memᴰ k (b ∷ rest) → (k ≡ a) ⊎ (k ≤ b)
    at (inl s) = inl s
    at (inr m) = inr (from (Memᴰ.cases_cons m))

module _ (M : Model) (w : Wellformed M) (f : ℕ) (args : List ℕ) where
  rival_of : (m : ℕ) → Memᴰ m (rivals M (applicable M f args)) → Rival M f args m
  rival_of m h =
      let ms = applicable M f args in
      let (k, u) = rivals_mem M ms h in
      record {
        candidate = applicable_candidate M f args k;
        alone = λ n c d. unbeaten_alone M ms m u n (candidate_applicable M f args c) d;
      }

  -- and each rival is listed
  rival_in : (m : ℕ) → Rival M f args m → Memᴰ m (rivals M (applicable M f args))
  rival_in m r =
      rivals_in M (applicable M f args) (candidate_applicable M f args r.candidate)
      (alone_unbeaten M (applicable M f args) m (λ n k. other n (applicable_candidate M f args k) (ℕ_discrete n m)))
    where
      other : (n : ℕ) → Candidate M f args n → Dec (n ≡ m) → (n ≡ m) ⊎ (as_specific M n m ≡ false)
      other n c (yes s) = inl s
      other n c (no d) = inr (r.alone n c d)

  rivals_falling : Falling (rivals M (applicable M f args))
  unfolding rivals
  rivals_falling =
      ordered_keep (λ x y. y < x) (unbeaten M (applicable M f args)) (reverse (applicable M f args))
      (ordered_reverse ◌<◌ (applicable M f args) (applicable_rising M f args))

  -- the first two that are listed are the newest
  listed_newest : (a b : ℕ) (rest : List ℕ) → rivals M (applicable M f args) ≡ a ∷ b ∷ rest → NewestRivals M f args a b
  listed_newest a b rest r =
      let falling = rw r at rivals_falling in
      record {
        newest = rival_of a (rw r (Memᴰ.head refl));
        next = rival_of b (rw r (Memᴰ.tail (Memᴰ.head refl)));
        higher = falling.0 b (Memᴰ.head refl);
        others = λ k v. placed k a b rest falling (rw r at (rival_in k v));
      }

  named : (m n : ℕ) → lookup M f args ≡ ambiguous m n → NewestRivals M f args m n
  unfolding lookup leader_or
  named m n e =
      let (one, free) = select_ambiguous M (applicable M f args) m n e in
      go one free (two_rivals M w f (applicable M f args) (λ k h. candidate_method (applicable_candidate M f args h)) one free)
    where
      go : 0 < length (applicable M f args) → first (leads M (applicable M f args)) (applicable M f args) ≡ none
          → (a : ℕ) × (b : ℕ) × (rest : List ℕ) × (rivals M (applicable M f args) ≡ a ∷ b ∷ rest) → NewestRivals M f args m n
      go one free (a, b, rest, r) =
          let pair : ambiguous m n ≡ ambiguous a b = sym e ∙ none_selected M (applicable M f args) one free ∙ ap (leader_or none) r in
          let p : m ≡ a = cc in
          let q : n ≡ b = cc in
          rw (p, q) (listed_newest a b rest r)

  -- a leader would be each of two rivals
  leaderless : (m n : ℕ) → NewestRivals M f args m n → (l : ℕ) → Leader M f args l → ⊥
  leaderless m n r l h =
      let s = same m r.newest (ℕ_discrete l m) in
      let t = same n r.next (ℕ_discrete l n) in
      omega (arith, s, t, r.higher)
    where
      same : (c : ℕ) → Rival M f args c → Dec (l ≡ c) → l ≡ c
      same c v (yes s) = s
      same c v (no d) = absurd (false≢true (sym (v.alone l h.candidate d) ∙ h.specific c v.candidate))

  -- there is one pair of newest rivals at the most
  newest_unique : (a b m n : ℕ) → NewestRivals M f args a b → NewestRivals M f args m n → (a ≡ m) × (b ≡ n)
  newest_unique a b m n p q =
      let same = upper (p.others m q.newest) (q.others a p.newest) in
      (same, lower same (p.others n q.next) (q.others b p.next))
    where
      upper : (m ≡ a) ⊎ (m ≤ b) → (a ≡ m) ⊎ (a ≤ n) → a ≡ m
      upper (inl s) t = sym s
      upper (inr s) (inl t) = t
      upper (inr s) (inr t) = absurd (omega (arith, s, t, p.higher, q.higher))

      lower : a ≡ m → (n ≡ a) ⊎ (n ≤ b) → (b ≡ m) ⊎ (b ≤ n) → b ≡ n
      lower s (inl u) v = absurd (omega (arith, s, u, q.higher))
      lower s (inr u) (inl v) = absurd (omega (arith, s, v, p.higher))
      lower s (inr u) (inr v) = omega (arith, u, v)

  -- Number 11 names the two newest rivals, the newer first, and nothing else does (M 5.5).
  pub lookup_rivals : (m n : ℕ) → (lookup M f args ≡ ambiguous m n) ↔ NewestRivals M f args m n
  lookup_rivals m n = (named m n, back)
    where
      back : NewestRivals M f args m n → lookup M f args ≡ ambiguous m n
      back r =
          let (a, b, e) = (lookup_ambiguous M f args).1 ((m, r.newest.candidate), leaderless m n r) in
          let (p, q) = newest_unique a b m n (named a b e) r in
          e ∙ ap₂ ambiguous p q

  pub leader_unique : (m n : ℕ) → Leader M f args m → Leader M f args n → m ≡ n
  leader_unique m n p q =
      specific_antisym M w m n p.candidate.bound q.candidate.bound (p.candidate.of_function ∙ sym q.candidate.of_function)
      (p.specific n q.candidate) (q.specific m p.candidate)

  -- a leader is what lookup finds
  pub leader_lookup : (m : ℕ) → Leader M f args m → lookup M f args ≡ found m
  leader_lookup m l = go (lookup M f args) refl
    where
      go : (r : Found) → lookup M f args ≡ r → lookup M f args ≡ found m
      go (found n) e = e ∙ ap (λ (k : ℕ). found k) (leader_unique n m (lookup_leader M f args n e) l)
      go missing e = absurd ((lookup_missing M f args).0 e m l.candidate)
      go (ambiguous a b) e = absurd (((lookup_ambiguous M f args).0 (a, b, e)).1 m l)

-- Narrowing. With no place filled every method of the function is left; each place filled leaves those whose specialiser there is above the class; with all
-- places filled those are left that apply.
pub left_none : (M : Model) (f m : ℕ) → left M f [] m ≡ eqb (M.function m) f
unfolding left under matching
left_none M f m = and-true (eqb (M.function m) f)

pub left_more : (M : Model) (f : ℕ) (filled : List ℕ) (a m : ℕ) → (M.function m ≡ f → length filled < length (M.specialisers m))
    → (left M f filled m && subclass M a (get_or (M.specialisers m) (length filled) 0)) ≡ left M f (filled ++ (a ∷ [])) m
unfolding left under
left_more M f filled a m long = go (test (eqb (M.function m) f))
  where
    go : (eqb (M.function m) f ≡ true) ⊎ (eqb (M.function m) f ≡ false)
        → (eqb (M.function m) f && under M filled (take (length filled) (M.specialisers m)) && subclass M a (get_or (M.specialisers m) (length filled) 0))
        ≡ (eqb (M.function m) f && under M (filled ++ (a ∷ [])) (take (length (filled ++ (a ∷ []))) (M.specialisers m)))
    go (inl q) = rw q (sym (matching_snoc (subclass M) filled a (M.specialisers m) 0 (long (eqb-true (M.function m) f q))))
    go (inr q) = rw q

pub candidate_left : (M : Model) → Wellformed M → (f : ℕ) (args : List ℕ) (m : ℕ) → length args ≡ M.arity f → Candidate M f args m → left M f args m ≡ true
unfolding left applies
candidate_left M w f args m e c =
    let long : length (M.specialisers m) ≡ length args = w.specialiser_places m c.bound ∙ ap M.arity c.of_function ∙ sym e in
    rw (eq-eqb (M.function m) f c.of_function, take_all (length args) (M.specialisers m) (le_of_eq long)) c.applying
