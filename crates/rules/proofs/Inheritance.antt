-- Reaching by steps from child to parent, on any graph of n classes whose parents are among them, with cycles or without: n steps are enough, so the test decides the
-- relation. On a graph without cycles reaching is antisymmetric, and fewer classes are above a parent than above its child.
-- Assumes nothing.
use Prim.Native.Nat.{ℕ, zero, suc, ◌+◌, ◌≤◌, ◌<◌}
use native.Mathlib.Omega.{arith}
use mathlib.Core.Path.{◌≡◌, refl, sym, ap, ◌∙◌}
use mathlib.Core.Bool.{Bool, true, false, not, ◌&&◌, ◌||◌, false≢true}
use mathlib.Core.Logic.{◌⊎◌, inl, inr, ◌↔◌}
use mathlib.Core.List.{List, Memᴰ}
use lib.Dec.{eqb, ltb}
use lib.ListN.{length}
use borrow.Author.Tests.{eqb-true, eq-eqb, ltb-true}
use Rattle.rules.specs.Bounded.{upto, every, any, keep}
use Rattle.rules.specs.Inheritance.{Reaches, itself, parent, Inherits, reaches_within, reaches, inherits}
use Rattle.rules.proofs.Decides.{refuted}
use Rattle.rules.proofs.Lists.{test, agree, and_left, and_right, or_cases, or_left, or_right, every_mem, any_mem, any_from, keep_fewer, keep_upto_length, below_upto}

pub reaches_compose : {parents : ℕ → List ℕ} {a b c : ℕ} → Reaches parents a b → Reaches parents b c → Reaches parents a c
reaches_compose itself v = v
reaches_compose (parent m u) v = parent m (reaches_compose u v)

module _ (parents : ℕ → List ℕ) where
  within_reaches : (n a b : ℕ) → reaches_within parents n a b ≡ true → Reaches parents a b
  unfolding reaches_within
  within_reaches zero a b e = rw (eqb-true a b e) itself
  within_reaches (suc n) a b e = go (or_cases (eqb a b) (any (λ p. reaches_within parents n p b) (parents a)) e) (λ p r. within_reaches n p b r)
    where
      go : (eqb a b ≡ true) ⊎ (any (λ p. reaches_within parents n p b) (parents a) ≡ true)
          → ((p : ℕ) → reaches_within parents n p b ≡ true → Reaches parents p b) → Reaches parents a b
      go (inl q) rest = rw (eqb-true a b q) itself
      go (inr q) rest = let (p, m, r) = any_mem (λ p. reaches_within parents n p b) (parents a) q in parent m (rest p r)

  within_itself : (n a : ℕ) → reaches_within parents n a a ≡ true
  unfolding reaches_within
  within_itself zero a = eq-eqb a a refl
  within_itself (suc n) a = or_left (eqb a a) (any (λ p. reaches_within parents n p a) (parents a)) (eq-eqb a a refl)

  within_parent : (n a b p : ℕ) → Memᴰ p (parents a) → reaches_within parents n p b ≡ true → reaches_within parents (suc n) a b ≡ true
  unfolding reaches_within
  within_parent n a b p m e =
      or_right (eqb a b) (any (λ p. reaches_within parents n p b) (parents a)) (any_from (λ p. reaches_within parents n p b) (parents a) m e)

  pub reaches_itself : (n a : ℕ) → reaches parents n a a ≡ true
  unfolding reaches
  reaches_itself n a = within_itself _ a

  pub reaches_sound : (n a b : ℕ) → reaches parents n a b ≡ true → Reaches parents a b
  unfolding reaches
  reaches_sound n a b e = within_reaches _ a b e

  -- a way all of whose classes pass a test
  data Along (free : ℕ → Bool) : ℕ → ℕ → Type 0 where
    here : {a : ℕ} → free a ≡ true → Along free a a
    step : {a p b : ℕ} → free a ≡ true → Memᴰ p (parents a) → Along free p b → Along free a b

  along_start : {free : ℕ → Bool} {a b : ℕ} → Along free a b → free a ≡ true
  along_start (here f) = f
  along_start (step f m u) = f

  along_any : {a b : ℕ} → Reaches parents a b → Along (λ c. true) a b
  along_any itself = here refl
  along_any (parent m u) = step refl m (along_any u)

  -- every class but x
  abbrev without : (ℕ → Bool) → ℕ → ℕ → Bool
  without free x c = free c && not (eqb c x)

  without_other : (free : ℕ → Bool) (x c : ℕ) → free c ≡ true → eqb c x ≡ false → without free x c ≡ true
  without_other free x c f e = rw (f, e)

  -- A way passes x for the last time and goes on without it, or does not pass x, or ends there.
  abbrev Past : (ℕ → Bool) → ℕ → ℕ → ℕ → Type 0
  Past free x a b = (x ≡ b) ⊎ (Along (without free x) a b ⊎ ((p : ℕ) × Memᴰ p (parents x) × Along (without free x) p b))

  last_passed : {free : ℕ → Bool} {a b : ℕ} (x : ℕ) → Along free a b → Past free x a b
  last_passed {free} {a} {b} x (here f) = go (test (eqb a x))
    where
      go : (eqb a x ≡ true) ⊎ (eqb a x ≡ false) → Past free x a a
      go (inl e) = inl (sym (eqb-true a x e))
      go (inr e) = inr (inl (here (without_other free x a f e)))
  last_passed {free} {a} {b} x (step {p = p} f m u) = go (test (eqb a x)) (last_passed x u)
    where
      go : (eqb a x ≡ true) ⊎ (eqb a x ≡ false) → Past free x p b → Past free x a b
      go t (inl q) = inl q
      go t (inr (inr later)) = inr (inr later)
      go (inl e) (inr (inl v)) = let k : Memᴰ p (parents x) = rw (← eqb-true a x e) m in inr (inr (p, k, v))
      go (inr e) (inr (inl v)) = inr (inl (step (without_other free x a f e) m v))

  module _ (n : ℕ) (closed : (c : ℕ) → c < n → every (λ p. ltb p n) (parents c) ≡ true) where
    pub parent_present : {c p : ℕ} → c < n → Memᴰ p (parents c) → p < n
    parent_present {c} {p} h m = ltb-true p n (every_mem (λ p. ltb p n) (parents c) (closed c h) m)

    pub reached_present : {a b : ℕ} → a < n → Reaches parents a b → b < n
    reached_present h itself = h
    reached_present h (parent m u) = reached_present (parent_present h m) u

    -- with one class less to pass
    fewer : (free : ℕ → Bool) (a : ℕ) → a < n → free a ≡ true → 1 + length (keep (without free a) (upto n)) ≤ length (keep free (upto n))
    fewer free a h f =
        keep_fewer (without free a) free (upto n) (λ c m e. and_left (free c) (not (eqb c a)) e) (below_upto n a h) f (rw (f, eq-eqb a a refl))

    -- A way is cut to what follows its last visit to the class where it begins, so as many steps are enough as there are classes left to pass.
    along_within : (steps : ℕ) (free : ℕ → Bool) {a b : ℕ} → length (keep free (upto n)) ≤ steps → a < n → Along free a b → reaches_within parents steps a b ≡ true
    along_within zero free {a} few h u = let l = fewer free a h (along_start u) in absurd (omega (arith, l))
    along_within (suc steps) free {a} {b} few h u =
        let l = fewer free a h (along_start u) in
        go (last_passed a u) (λ p k v. along_within steps (without free a) (omega (arith, l)) k v)
      where
        go : Past free a a b → ((p : ℕ) → p < n → Along (without free a) p b → reaches_within parents steps p b ≡ true)
            → reaches_within parents (suc steps) a b ≡ true
        go (inl e) rest = rw (← e) (within_itself (suc steps) a)
        go (inr (inl v)) rest =
            absurd (false≢true (sym (ap not (eq-eqb a a refl)) ∙ and_right (free a) (not (eqb a a)) (along_start v)))
        go (inr (inr (p, m, v))) rest = within_parent steps a b p m (rest p (parent_present h m) v)

    pub reaches_complete : (a b : ℕ) → a < n → Reaches parents a b → reaches parents n a b ≡ true
    unfolding reaches
    reaches_complete a b h u =
        along_within n (λ c. true) (keep_upto_length (λ c. true) n) h (along_any u)

    -- the test decides, cycles or not
    pub reaches_decides : (a b : ℕ) → a < n → (reaches parents n a b ≡ true) ↔ Reaches parents a b
    reaches_decides a b h = (reaches_sound n a b, reaches_complete a b h)

    pub inherits_decides : (a b : ℕ) → a < n → (inherits parents n a b ≡ true) ↔ Inherits parents a b
    unfolding inherits
    inherits_decides a b h = (
      λ e. let (p, m, r) = any_mem (λ p. reaches parents n p b) (parents a) e in (p, m, reaches_sound n p b r),
      λ (p, m, u). any_from (λ p. reaches parents n p b) (parents a) m (reaches_complete p b (parent_present h m) u),
    )

    -- a class reaches what it is, or what one of its parents reaches
    pub reaches_parents : (a b : ℕ) → a < n → reaches parents n a b ≡ (eqb a b || inherits parents n a b)
    reaches_parents a b h = agree (reaches parents n a b) (eqb a b || inherits parents n a b) (λ e. down (reaches_sound n a b e)) (λ e. up (or_cases (eqb a b) (inherits parents n a b) e))
      where
        down : {c : ℕ} → Reaches parents a c → (eqb a c || inherits parents n a c) ≡ true
        down itself = or_left (eqb a a) (inherits parents n a a) (eq-eqb a a refl)
        down {c} (parent {p = p} m u) = or_right (eqb a c) (inherits parents n a c) ((inherits_decides a c h).1 (p, m, u))

        up : (eqb a b ≡ true) ⊎ (inherits parents n a b ≡ true) → reaches parents n a b ≡ true
        up (inl e) = rw (eqb-true a b e) (reaches_itself n b)
        up (inr e) = let (p, m, u) = (inherits_decides a b h).0 e in reaches_complete a b h (parent m u)

    -- where no class inherits from itself
    module _ (acyclic : (c : ℕ) → c < n → inherits parents n c c ≡ false) where
      no_way_back : {c p : ℕ} → c < n → Memᴰ p (parents c) → Reaches parents p c → ⊥
      no_way_back {c} {p} h m u = false≢true (sym (acyclic c h) ∙ (inherits_decides c c h).1 (p, m, u))

      pub reaches_antisym : {a b : ℕ} → a < n → Reaches parents a b → Reaches parents b a → a ≡ b
      reaches_antisym h itself v = refl
      reaches_antisym h (parent m u) v = absurd (no_way_back h m (reaches_compose u v))

      -- a number that falls from child to parent: how many classes are above, the class itself among them
      pub above_falls : {c p : ℕ} → c < n → Memᴰ p (parents c)
          → 1 + length (keep (reaches parents n p) (upto n)) ≤ length (keep (reaches parents n c) (upto n))
      above_falls {c} {p} h m =
          keep_fewer (reaches parents n p) (reaches parents n c) (upto n)
          (λ b k e. reaches_complete c b h (parent m (reaches_sound n p b e)))
          (below_upto n c h) (reaches_itself n c)
          (refuted (reaches parents n p c) (λ e. no_way_back h m (reaches_sound n p c e)))
