-- The rivals of a list before a place, by those before the place below it.
-- Assumes nothing.
use Prim.Native.Nat.{ℕ, zero, suc, ◌-◌, ◌≤◌, ◌<◌}
use native.Mathlib.Nat.{le_of_eq}
use native.Mathlib.Omega.{arith}
use mathlib.Core.Path.{◌≡◌, refl, sym, ap, subst, ◌∙◌}
use mathlib.Core.Bool.{true, false}
use mathlib.Core.List.{List, [], ◌∷◌, reverse, reverse-append, Memᴰ}
use mathlib.Core.Option.{none}
use lib.ListN.{length, get_or, take}
use lib.Seq.{take_all, take-suc}
use Rattle.rules.specs.Bounded.{keep, first}
use Rattle.rules.specs.Model.{Model, Wellformed}
use Rattle.rules.specs.Lookup.{ambiguous, leads, unbeaten, rivals, leader_or, select}
use Rattle.rules.proofs.Lists.{keep_hit, keep_miss}
use Rattle.rules.proofs.Selection.{MethodOf, none_selected, two_rivals}
use Rattle.dispatch.specs.Rivals.{rivals_before, LastRival}

module _ (M : Model) (ms : List ℕ) where
  pub before_all : rivals_before M ms (length ms) ≡ rivals M ms
  unfolding rivals_before rivals
  before_all = ap (λ (l : List ℕ). keep (unbeaten M ms) (reverse l)) (take_all (length ms) ms (le_of_eq refl))

  -- before the first place there is none
  pub before_some : (end : ℕ) → 0 < length (rivals_before M ms end) → 0 < end
  unfolding rivals_before keep
  before_some zero h = h
  before_some (suc end) h = omega arith

  module _ (end : ℕ) (some : 0 < end) (within : end ≤ length ms) where
    turned : reverse (take end ms) ≡ get_or ms (end - 1) 0 ∷ reverse (take (end - 1) ms)
    turned =
        let next : suc (end - 1) ≡ end = omega arith in
        subst (λ (k : ℕ). reverse (take k ms) ≡ get_or ms (end - 1) 0 ∷ reverse (take (end - 1) ms)) next
        (rw (take-suc ms (end - 1) 0 (omega arith)) (reverse-append (take (end - 1) ms) (get_or ms (end - 1) 0 ∷ [])))

    pub before_hit : unbeaten M ms (get_or ms (end - 1) 0) ≡ true → LastRival M ms end (end - 1)
    unfolding rivals_before
    before_hit e =
        record {
          within = omega arith;
          last = ap (keep (unbeaten M ms)) turned ∙ keep_hit (unbeaten M ms) (get_or ms (end - 1) 0) (reverse (take (end - 1) ms)) e;
        }

    pub before_miss : unbeaten M ms (get_or ms (end - 1) 0) ≡ false → rivals_before M ms (end - 1) ≡ rivals_before M ms end
    unfolding rivals_before
    before_miss e =
        sym (ap (keep (unbeaten M ms)) turned ∙ keep_miss (unbeaten M ms) (get_or ms (end - 1) 0) (reverse (take (end - 1) ms)) e)

-- methods of one function, of which none leads
pub record Unled (M : Model) (f : ℕ) (ms : List ℕ) : Type 0 where
  pub formed : Wellformed M
  pub each : (n : ℕ) → Memᴰ n ms → MethodOf M f n
  pub some : 0 < length ms
  pub free : first (leads M ms) ms ≡ none

-- the last rival and the last one before it are there, and are the two to name
module _ {M : Model} {f : ℕ} {ms : List ℕ} (u : Unled M f ms) where
  two_there : 1 < length (rivals_before M ms (length ms))
  two_there = let (a, b, rest, e) = two_rivals M u.formed f ms u.each u.some u.free in omega (arith, ap length (before_all M ms ∙ e))

  pub last_there : 0 < length (rivals_before M ms (length ms))
  last_there = omega (arith, two_there)

  module _ {r : ℕ} (last : LastRival M ms (length ms) r) where
    pub next_there : 0 < length (rivals_before M ms r)
    next_there = omega (arith, two_there, ap length last.last)

    pub both_named : {s m n : ℕ} → LastRival M ms r s → m ≡ get_or ms r 0 → n ≡ get_or ms s 0 → ambiguous m n ≡ select M ms
    unfolding leader_or
    both_named {s} next e g =
        let listed = sym (before_all M ms) ∙ last.last ∙ ap (λ (l : List ℕ). get_or ms r 0 ∷ l) next.last in
        rw (e, g) (sym (none_selected M ms u.some u.free ∙ ap (leader_or none) listed))
