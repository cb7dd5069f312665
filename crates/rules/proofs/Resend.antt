-- Resends: the target leads the methods that its method overrides, and is the only one that does; it is less specific than the method, and applies where the
-- method does; so each resend of a chain has fewer methods left to go to than the one before, and a chain ends. A method without arguments has no target.
-- Assumes nothing.
use Prim.Native.Nat.{ℕ, zero, suc, ◌+◌, ◌≤◌, ◌<◌}
use native.Mathlib.Omega.{arith}
use mathlib.Core.Path.{◌≡◌, refl, sym, ap, ◌∙◌}
use mathlib.Core.Bool.{true, false, not, ◌&&◌, false≢true}
use mathlib.Core.Logic.{◌⊎◌, inl, inr, ◌↔◌}
use mathlib.Core.List.{List, [], ◌∷◌, Memᴰ}
use lib.Dec.{eqb}
use lib.ListN.{length}
use borrow.Author.Tests.{eqb-true, eq-eqb, not-true}
use Rattle.rules.specs.Bounded.{upto, keep}
use Rattle.rules.specs.Model.{Model, Wellformed, present}
use Rattle.rules.specs.Lookup.{found, missing, ambiguous, applies, applicable, as_specific, leads}
use Rattle.rules.specs.Resend.{overrides, overridden, resend_target}
use Rattle.rules.proofs.Lists.{test, and_left, and_right, and_both, and_swap, keep_mem, keep_in, keep_agree, keep_keep, keep_fewer, upto_below, below_upto}
use Rattle.rules.proofs.Subclass.{under_trans}
use Rattle.rules.proofs.Selection.{leads_all, all_leads, select_found, nothing_selected, none_leads, leading_selected, specific_trans, specific_antisym, no_twin}

-- n is overridden by m
pub record Overridden (M : Model) (m n : ℕ) : Type 0 where
  pub bound : n < M.methods
  pub of_function : M.function n ≡ M.function m
  pub other : n ≡ m → ⊥
  pub specific : as_specific M m n ≡ true

-- and is at least as specific as every method that is
pub record Target (M : Model) (m n : ℕ) : Type 0 where
  pub chosen : Overridden M m n
  pub specific : (k : ℕ) → Overridden M m k → as_specific M n k ≡ true

-- the methods that m overrides are those that apply to its own specialisers, without m
pub overridden_others : (M : Model) (m : ℕ) → overridden M m ≡ keep (λ n. not (eqb n m)) (applicable M (M.function m) (M.specialisers m))
unfolding overridden overrides applicable applies as_specific
overridden_others M m =
    keep_agree (overrides M m) _ (upto M.methods) (λ n h. and_swap (eqb (M.function n) (M.function m)) (not (eqb n m)) (applies M (M.specialisers m) n))
    ∙ sym (keep_keep _ (λ n. not (eqb n m)) (upto M.methods))

module _ (M : Model) (m : ℕ) where
  overrides_overridden : (n : ℕ) → n < M.methods → overrides M m n ≡ true → Overridden M m n
  unfolding overrides
  overrides_overridden n b e =
      let same = eqb (M.function n) (M.function m) in
      let apart = not (eqb n m) in
      let both = and_left (same && apart) (as_specific M m n) e in
      record {
        bound = b;
        of_function = eqb-true (M.function n) (M.function m) (and_left same apart both);
        other = λ q. false≢true (sym (not-true (eqb n m) (and_right same apart both)) ∙ eq-eqb n m q);
        specific = and_right (same && apart) (as_specific M m n) e;
      }

  overridden_overrides : (n : ℕ) → Overridden M m n → overrides M m n ≡ true
  unfolding overrides
  overridden_overrides n o =
      and_both (eqb (M.function n) (M.function m) && not (eqb n m)) (as_specific M m n)
      (and_both (eqb (M.function n) (M.function m)) (not (eqb n m)) (eq-eqb (M.function n) (M.function m) o.of_function) (apart (test (eqb n m))))
      o.specific
    where
      apart : (eqb n m ≡ true) ⊎ (eqb n m ≡ false) → not (eqb n m) ≡ true
      apart (inl e) = absurd (o.other (eqb-true n m e))
      apart (inr e) = ap not e

  listed_overridden : {n : ℕ} → Memᴰ n (overridden M m) → Overridden M m n
  unfolding overridden
  listed_overridden {n} h = let (k, e) = keep_mem (overrides M m) (upto M.methods) h in overrides_overridden n (upto_below M.methods k) e

  overridden_listed : {n : ℕ} → Overridden M m n → Memᴰ n (overridden M m)
  unfolding overridden
  overridden_listed {n} o = keep_in (overrides M m) (upto M.methods) (below_upto M.methods n o.bound) (overridden_overrides n o)

  -- a resend has no target by 25 exactly where its method overrides none (M 15.2)
  pub target_missing : (resend_target M m ≡ missing) ↔ ((n : ℕ) → Overridden M m n → ⊥)
  unfolding resend_target
  target_missing = (
    λ e n o. (nothing_selected M (overridden M m)).0 e n (overridden_listed o),
    λ free. (nothing_selected M (overridden M m)).1 (λ n h. free n (listed_overridden h)),
  )

  leads_target : (n : ℕ) → Memᴰ n (overridden M m) → leads M (overridden M m) n ≡ true → Target M m n
  leads_target n h e = record { chosen = listed_overridden h; specific = λ k o. leads_all M (overridden M m) n e k (overridden_listed o) }

  target_leads : (n : ℕ) → Target M m n → leads M (overridden M m) n ≡ true
  target_leads n t = all_leads M (overridden M m) n (λ k h. t.specific k (listed_overridden h))

  -- and by 26 exactly where it overrides some and none of them is the target
  pub target_ambiguous : ((a : ℕ) × (b : ℕ) × (resend_target M m ≡ ambiguous a b)) ↔ (((n : ℕ) × Overridden M m n) × ((n : ℕ) → Target M m n → ⊥))
  unfolding resend_target
  target_ambiguous = (
    λ e. let ((n, h), free) = (none_leads M (overridden M m)).0 e in
        ((n, listed_overridden h), λ k t. free k (overridden_listed t.chosen) (target_leads k t)),
    λ ((n, o), free). (none_leads M (overridden M m)).1 ((n, overridden_listed o), λ k h e. free k (leads_target k h e)),
  )

  pub found_target : (n : ℕ) → resend_target M m ≡ found n → Target M m n
  unfolding resend_target
  found_target n e = let (h, l) = select_found M (overridden M m) n e in leads_target n h l

-- so many resends, each in the target of the one before, lead from a method to another
pub data Chain (M : Model) : ℕ → ℕ → ℕ → Type 0 where
  none : {m : ℕ} → Chain M 0 m m
  one_more : {k m n l : ℕ} → resend_target M m ≡ found n → Chain M k n l → Chain M (suc k) m l

module _ (M : Model) (w : Wellformed M) (m : ℕ) (h : m < M.methods) where
  pub target_found : (n : ℕ) → Target M m n → resend_target M m ≡ found n
  unfolding resend_target
  target_found n t =
      leading_selected M w (M.function m) (overridden M m) (λ k l. let o = listed_overridden M m l in record { bound = o.bound; of_function = o.of_function }) n
      (overridden_listed M m t.chosen) (target_leads M m n t)

  pub target_unique : (a b : ℕ) → Target M m a → Target M m b → a ≡ b
  target_unique a b s t = cc (sym (target_found a s) ∙ target_found b t)

  -- what m overrides is less specific, and applies where m does
  pub overridden_less : (n : ℕ) → Overridden M m n → as_specific M n m ≡ false
  overridden_less n o = go (test (as_specific M n m))
    where
      go : (as_specific M n m ≡ true) ⊎ (as_specific M n m ≡ false) → as_specific M n m ≡ false
      go (inl e) = absurd (o.other (specific_antisym M w n m o.bound h o.of_function e o.specific))
      go (inr e) = e

  pub overridden_applies : (n : ℕ) → Overridden M m n → (args : List ℕ) → present M args ≡ true → applies M args m ≡ true → applies M args n ≡ true
  unfolding applies as_specific
  overridden_applies n o args p a = under_trans M w args (M.specialisers m) (M.specialisers n) p a o.specific

  -- it overrides nothing that m does not, nor itself
  overridden_fewer : (n : ℕ) → Overridden M m n → 1 + length (overridden M n) ≤ length (overridden M m)
  unfolding overridden overrides
  overridden_fewer n o =
      keep_fewer (overrides M n) (overrides M m) (upto M.methods) (λ k l e. further k (overrides_overridden M n k (upto_below M.methods l) e))
      (below_upto M.methods n o.bound) (overridden_overrides M m n o) (itself (test (overrides M n n)))
    where
      further : (k : ℕ) → Overridden M n k → overrides M m k ≡ true
      further k i =
          overridden_overrides M m k
          (record {
            bound = i.bound;
            of_function = i.of_function ∙ o.of_function;
            other = λ q. false≢true (sym (overridden_less n o) ∙ ap (as_specific M n) (sym q) ∙ i.specific);
            specific = specific_trans M w m n k h o.specific i.specific;
          })

      itself : (overrides M n n ≡ true) ⊎ (overrides M n n ≡ false) → overrides M n n ≡ false
      itself (inl e) = absurd ((overrides_overridden M n n o.bound e).other refl)
      itself (inr e) = e

  -- a function without arguments has one method, and a resend in it no target
  pub no_arguments : M.arity (M.function m) ≡ 0 → resend_target M m ≡ missing
  no_arguments none-there =
      (target_missing M m).1
      (λ n o. o.other
      (no_twin M w n m o.bound h o.of_function
      (empty (M.specialisers n) (w.specialiser_places n o.bound ∙ ap M.arity o.of_function ∙ none-there)
      ∙ sym (empty (M.specialisers m) (w.specialiser_places m h ∙ none-there)))))
    where
      empty : (xs : List ℕ) → length xs ≡ 0 → xs ≡ []
      empty [] e = refl
      empty (x ∷ xs) e = absurd (omega (arith, e))

-- a chain from m has no more resends than m overrides methods
pub chain_ends : (M : Model) → Wellformed M → (k m l : ℕ) → m < M.methods → Chain M k m l → k + length (overridden M l) ≤ length (overridden M m)
chain_ends M w zero m l h none = omega arith
chain_ends M w (suc k) m l h (one_more {n = n} e c) =
    let o = (found_target M m n e).chosen in
    omega (arith, overridden_fewer M w m h n o, chain_ends M w k n l o.bound c)
