-- Subclassing: the test agrees with the relation of the rules on the classes of the bundle, and is a partial order there with class 0 at the top; and what each
-- answer of the ancestry question says of two classes.
-- Assumes nothing.
use Prim.Native.Nat.{ℕ, zero, suc, ◌≤◌, ◌<◌}
use native.Mathlib.Nat.{not-suc-le-zero, eq-zero-or-pos, lt_trans}
use native.Mathlib.Omega.{arith}
use mathlib.Core.Path.{◌≡◌, refl, sym, ap, ◌∙◌}
use mathlib.Core.Bool.{Bool, true, false, ◌||◌, false≢true}
use mathlib.Core.Logic.{◌⊎◌, inl, inr, ◌↔◌}
use mathlib.Core.List.{List, [], ◌∷◌, Memᴰ}
use lib.Dec.{eqb, ltb}
use borrow.Author.Tests.{eqb-true, eqb-false, eq-eqb, ne_eqb, ltb-true}
use Rattle.rules.specs.Bounded.{any}
use Rattle.rules.specs.Model.{Model, Wellformed, present}
use Rattle.rules.specs.Subclass.{Under, itself, parent, subclass_within, subclass, under, Ancestry, same, heir, neither, ancestry_by, ancestry, is_under}
use Rattle.rules.proofs.Lists.{agree, or_cases, or_left, or_right, any_mem, any_from, every_mem, matching_refl, matching_trans, matching_antisym}

-- composed paths
pub under_compose : {M : Model} {a b c : ℕ} → Under M a b → Under M b c → Under M a c
under_compose itself v = v
under_compose (parent m u) v = parent m (under_compose u v)

pub within_under : (M : Model) (n a b : ℕ) → subclass_within M n a b ≡ true → Under M a b
unfolding subclass_within
within_under M zero a b e = rw (eqb-true a b e) itself
within_under M (suc n) a b e = go (or_cases (eqb a b) (any (λ p. subclass_within M n p b) (M.parents a)) e) (λ p r. within_under M n p b r)
  where
    go : (eqb a b ≡ true) ⊎ (any (λ p. subclass_within M n p b) (M.parents a) ≡ true) → ((p : ℕ) → subclass_within M n p b ≡ true → Under M p b) → Under M a b
    go (inl q) rest = rw (eqb-true a b q) itself
    go (inr q) rest = let (p, m, r) = any_mem (λ p. subclass_within M n p b) (M.parents a) q in parent m (rest p r)

pub within_itself : (M : Model) (n a : ℕ) → subclass_within M n a a ≡ true
unfolding subclass_within
within_itself M zero a = eq-eqb a a refl
within_itself M (suc n) a = or_left (eqb a a) (any (λ p. subclass_within M n p a) (M.parents a)) (eq-eqb a a refl)

within_parent : (M : Model) (n a b p : ℕ) → Memᴰ p (M.parents a) → subclass_within M n p b ≡ true → subclass_within M (suc n) a b ≡ true
unfolding subclass_within
within_parent M n a b p m e =
    or_right (eqb a b) (any (λ p. subclass_within M n p b) (M.parents a)) (any_from (λ p. subclass_within M n p b) (M.parents a) m e)

pub subclass_under : (M : Model) (a b : ℕ) → subclass M a b ≡ true → Under M a b
unfolding subclass
subclass_under M a b e = within_under M M.classes a b e

pub subclass_itself : (M : Model) (a : ℕ) → subclass M a a ≡ true
unfolding subclass
subclass_itself M a = within_itself M M.classes a

pub under_itself : (M : Model) (xs : List ℕ) → under M xs xs ≡ true
unfolding under
under_itself M xs = matching_refl (subclass M) xs (λ a m. subclass_itself M a)

module _ (M : Model) (w : Wellformed M) where
  pub parent_lower : {c p : ℕ} → c < M.classes → Memᴰ p (M.parents c) → p < c
  parent_lower {c} {p} h m = ltb-true p c (every_mem (λ p. ltb p c) (M.parents c) (w.parents_lower c h) m)

  -- each step goes to a lower number, so a's number of steps is enough
  under_within : {a b : ℕ} (n : ℕ) → a < M.classes → a ≤ n → Under M a b → subclass_within M n a b ≡ true
  under_within {a} n h k itself = within_itself M n a
  under_within {a} {b} zero h k (parent m u) = let l = parent_lower h m in absurd (omega (arith, l))
  under_within {a} {b} (suc n) h k (parent {p = p} m u) =
      let l = parent_lower h m in
      within_parent M n a b p m (under_within n (omega (arith, l)) (omega (arith, l)) u)

  pub under_subclass : (a b : ℕ) → a < M.classes → Under M a b → subclass M a b ≡ true
  unfolding subclass
  under_subclass a b h u = under_within M.classes h (omega arith) u

  under_not_above : {a b : ℕ} → a < M.classes → Under M a b → b ≤ a
  under_not_above h itself = omega arith
  under_not_above {a} {b} h (parent {p = p} m u) =
      let l = parent_lower h m in
      let k : b ≤ p = under_not_above (omega (arith, l)) u in
      omega (arith, l)

  -- a superclass has no higher number, so it is a class of the bundle too
  pub subclass_not_above : (a b : ℕ) → a < M.classes → subclass M a b ≡ true → b ≤ a
  subclass_not_above a b h e = under_not_above h (subclass_under M a b e)

  pub subclass_trans : (a b c : ℕ) → a < M.classes → subclass M a b ≡ true → subclass M b c ≡ true → subclass M a c ≡ true
  subclass_trans a b c h e f = under_subclass a c h (under_compose (subclass_under M a b e) (subclass_under M b c f))

  pub subclass_antisym : (a b : ℕ) → a < M.classes → subclass M a b ≡ true → subclass M b a ≡ true → a ≡ b
  subclass_antisym a b h e f =
      let p = subclass_not_above a b h e in
      let q = subclass_not_above b a (omega (arith, p)) f in
      omega (arith, p, q)

  pub present_below : {xs : List ℕ} {a : ℕ} → present M xs ≡ true → Memᴰ a xs → a < M.classes
  unfolding present
  present_below {xs} {a} e m = ltb-true a M.classes (every_mem (λ c. ltb c M.classes) xs e m)

  pub under_trans : (xs ys zs : List ℕ) → present M xs ≡ true → under M xs ys ≡ true → under M ys zs ≡ true → under M xs zs ≡ true
  unfolding under
  under_trans xs ys zs h e f =
      matching_trans (subclass M) (subclass M) (subclass M) xs ys zs (λ a b c m. subclass_trans a b c (present_below h m)) e f

  pub under_antisym : (xs ys : List ℕ) → present M xs ≡ true → under M xs ys ≡ true → under M ys xs ≡ true → xs ≡ ys
  unfolding under
  under_antisym xs ys h e f = matching_antisym (subclass M) xs ys (λ a b m n. subclass_antisym a b (present_below h m)) e f

  -- everything is under class 0 (M 4.1): each class but 0 has a parent, and parents are lower
  root_within : (n a : ℕ) → a < M.classes → a ≤ n → Under M a 0
  root_within zero a h k = let z : a ≡ 0 = omega arith in rw z itself
  root_within (suc n) a h k = go (eq-zero-or-pos a) (M.parents a) refl (λ p r l. root_within n p r l)
    where
      go : (a ≡ 0) ⊎ (0 < a) → (ps : List ℕ) → M.parents a ≡ ps → ((p : ℕ) → p < M.classes → p ≤ n → Under M p 0) → Under M a 0
      go (inl z) ps e rest = rw z itself
      go (inr z) [] e rest = let l = w.parents_some a h z in absurd (not-suc-le-zero (rw e at l))
      go (inr z) (p ∷ ps) e rest =
          let m : Memᴰ p (M.parents a) = rw e (mathlib.Core.List.Memᴰ.head refl) in
          let l = parent_lower h m in
          parent m (rest p (omega (arith, l)) (omega (arith, l)))

  pub subclass_root : (a : ℕ) → a < M.classes → subclass M a 0 ≡ true
  subclass_root a h = under_subclass a 0 h (root_within a a h (omega arith))

  under_step : {a b : ℕ} → a < M.classes → Under M a b → (eqb a b || any (λ p. subclass M p b) (M.parents a)) ≡ true
  under_step {a} h itself = or_left (eqb a a) (any (λ p. subclass M p a) (M.parents a)) (eq-eqb a a refl)
  under_step {a} {b} h (parent {p = p} m u) =
      or_right (eqb a b) (any (λ p. subclass M p b) (M.parents a))
      (any_from (λ p. subclass M p b) (M.parents a) m (under_subclass p b (lt_trans (parent_lower h m) h) u))

  -- a class is under another when it is that class or one of its parents is: how a row follows from the parents' rows
  pub subclass_parents : (a b : ℕ) → a < M.classes → subclass M a b ≡ (eqb a b || any (λ p. subclass M p b) (M.parents a))
  subclass_parents a b h = agree (subclass M a b) (eqb a b || any (λ p. subclass M p b) (M.parents a)) down up
    where
      down : subclass M a b ≡ true → (eqb a b || any (λ p. subclass M p b) (M.parents a)) ≡ true
      down e = under_step h (subclass_under M a b e)

      back : (eqb a b ≡ true) ⊎ (any (λ p. subclass M p b) (M.parents a) ≡ true) → subclass M a b ≡ true
      back (inl q) = rw (eqb-true a b q) (subclass_itself M b)
      back (inr q) =
          let (p, m, u) = any_mem (λ p. subclass M p b) (M.parents a) q in
          under_subclass a b h (parent m (subclass_under M p b u))

      up : (eqb a b || any (λ p. subclass M p b) (M.parents a)) ≡ true → subclass M a b ≡ true
      up e = back (or_cases (eqb a b) (any (λ p. subclass M p b) (M.parents a)) e)

-- The answers of the ancestry question (M 4.2). Whatever the numbers, the class is under the other exactly where the answer is same or heir.
pub by_under : (t equal : Bool) → is_under (ancestry_by t equal) ≡ t
unfolding is_under ancestry_by
by_under true true = refl
by_under true false = refl
by_under false equal = refl

pub ancestry_under : (M : Model) (a b : ℕ) → is_under (ancestry M a b) ≡ subclass M a b
unfolding ancestry
ancestry_under M a b = by_under (subclass M a b) (eqb a b)

-- which of the three it is, by the two tests
by_same : (t equal : Bool) → ancestry_by t equal ≡ same → equal ≡ true
unfolding ancestry_by
by_same true true e = refl
by_same true false e = absurd (false≢true (cc))
by_same false equal e = absurd (false≢true (cc))

by_heir : (t equal : Bool) → ancestry_by t equal ≡ heir → (t ≡ true) × (equal ≡ false)
unfolding ancestry_by
by_heir true true e = absurd (false≢true (cc))
by_heir true false e = (refl, refl)
by_heir false equal e = absurd (false≢true (cc))

-- the same class is the one with the same number
pub ancestry_same : (M : Model) (a b : ℕ) → (ancestry M a b ≡ same) ↔ (a ≡ b)
unfolding ancestry ancestry_by
ancestry_same M a b = (
  λ e. eqb-true a b (by_same (subclass M a b) (eqb a b) e),
  λ e. rw (e, subclass_itself M b, eq-eqb b b refl),
)

module _ (M : Model) (w : Wellformed M) (a b : ℕ) (h : a < M.classes) where
  -- an heir is under the other class and is not that class
  pub ancestry_heir : (ancestry M a b ≡ heir) ↔ (Under M a b × (a ≡ b → ⊥))
  unfolding ancestry ancestry_by
  ancestry_heir = (
    λ e. let (t, d) = by_heir (subclass M a b) (eqb a b) e in (subclass_under M a b t, eqb-false a b d),
    λ (u, d). rw (under_subclass M w a b h u, ne_eqb a b d),
  )

  -- and the two together are all that is under it
  pub same_or_heir : ((ancestry M a b ≡ same) ⊎ (ancestry M a b ≡ heir)) ↔ Under M a b
  unfolding is_under
  same_or_heir = (down, λ u. up (ancestry M a b) refl u)
    where
      down : (ancestry M a b ≡ same) ⊎ (ancestry M a b ≡ heir) → Under M a b
      down (inl e) = rw ((ancestry_same M a b).0 e) itself
      down (inr e) = (ancestry_heir.0 e).0

      up : (r : Ancestry) → ancestry M a b ≡ r → Under M a b → (ancestry M a b ≡ same) ⊎ (ancestry M a b ≡ heir)
      up same e u = inl e
      up heir e u = inr e
      up neither e u = absurd (false≢true (sym (sym (ancestry_under M a b) ∙ ap is_under e) ∙ under_subclass M w a b h u))
