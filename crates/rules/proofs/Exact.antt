-- Exact lookups: the method found is the one of the function whose specialisers are the arguments, and where the function has such a method, lookup finds it.
-- Assumes nothing.
use Prim.Native.Nat.{ℕ, ◌≤◌}
use mathlib.Core.Path.{◌≡◌, refl, sym, ap, ◌∙◌}
use mathlib.Core.Bool.{true, false≢true}
use mathlib.Core.Logic.{◌↔◌}
use mathlib.Core.List.{List}
use lib.Dec.{eqb}
use borrow.Author.Tests.{eqb-true, eq-eqb, le-leb}
use Rattle.rules.specs.Layout.{gives, opening, require}
use Rattle.rules.specs.Model.{Model, Wellformed, model_of}
use Rattle.rules.specs.Scratch.{scratch_bytes}
use Rattle.rules.specs.Lookup.{Found, found, missing, ambiguous, applies, as_specific, lookup, exact}
use Rattle.rules.specs.Calls.{on_opening, when_open, with_scratch, send_rule, used, Match, found_answer, lookup_in, lookup_call}
use Rattle.rules.proofs.Lists.{matching_refl, matching_equal}
use Rattle.rules.proofs.Opening.{require_passed}
use Rattle.rules.proofs.Wellformed.{opened_wellformed}
use Rattle.rules.proofs.Subclass.{under_itself}
use Rattle.rules.proofs.Selection.{MethodOf}
use Rattle.rules.proofs.Lookup.{Leader, lookup_leader, leader_lookup}
use Rattle.rules.proofs.Calls.{gives_same, called_gives}

-- a method of the function whose specialisers are these classes
pub record WrittenFor (M : Model) (f : ℕ) (args : List ℕ) (m : ℕ) : Type 0 where
  pub method : MethodOf M f m
  pub specialisers : M.specialisers m ≡ args

-- the test says so
pub exact_same : (M : Model) (args : List ℕ) (m : ℕ) → (exact M args m ≡ true) ↔ (M.specialisers m ≡ args)
unfolding exact
exact_same M args m = (
  λ e. sym (matching_equal eqb args (M.specialisers m) eqb-true e),
  λ e. rw e (matching_refl eqb args (λ c h. eq-eqb c c refl)),
)

module _ (M : Model) (w : Wellformed M) (f : ℕ) (args : List ℕ) where
  -- it leads: what applies has specialisers above the arguments, which are its own
  written_leader : (m : ℕ) → WrittenFor M f args m → Leader M f args m
  unfolding applies as_specific
  written_leader m x =
      record {
        candidate = record { bound = x.method.bound; of_function = x.method.of_function; applying = rw x.specialisers (under_itself M args) };
        specific = λ n c. rw x.specialisers c.applying;
      }

  -- where there is such a method lookup finds it, and is exact (M 5.7)
  pub written_found : (m : ℕ) → WrittenFor M f args m → (lookup M f args ≡ found m) × (exact M args m ≡ true)
  written_found m x = (leader_lookup M w f args m (written_leader m x), (exact_same M args m).1 x.specialisers)

  -- where lookup is exact it finds the one such method (M 5.7)
  pub exact_found : (m : ℕ) → lookup M f args ≡ found m → exact M args m ≡ true → WrittenFor M f args m × ((n : ℕ) → WrittenFor M f args n → n ≡ m)
  exact_found m e x =
      let c = (lookup_leader M f args m e).candidate in (
        record { method = record { bound = c.bound; of_function = c.of_function }; specialisers = (exact_same M args m).0 x },
        λ n y. only n (written_found n y).0,
      )
    where
      only : (n : ℕ) → lookup M f args ≡ found n → n ≡ m
      only n q = cc (sym q ∙ e)

-- The same of the lookup call, of any bytes and lent length.
pub exact_call : (b : List ℕ) (scratch f : ℕ) (tuple : List ℕ) (m : ℕ) → lookup_call b scratch f tuple ≡ gives (record { method = m; is_exact = true })
    → let args = used (model_of b) f tuple in
    WrittenFor (model_of b) f args m × ((n : ℕ) → WrittenFor (model_of b) f args n → n ≡ m)
unfolding lookup_call lookup_in found_answer
exact_call b scratch f tuple m e =
    let (w, q) = called_gives b scratch (lookup_in f tuple) _ e in
    go w (lookup (model_of b) f (used (model_of b) f tuple)) refl (require_passed (send_rule (model_of b) f tuple) 18 _ q).1
  where
    go : Wellformed (model_of b) → (r : Found) → lookup (model_of b) f (used (model_of b) f tuple) ≡ r
        → found_answer (model_of b) f tuple r ≡ gives (record { method = m; is_exact = true })
        → let args = used (model_of b) f tuple in
        WrittenFor (model_of b) f args m × ((n : ℕ) → WrittenFor (model_of b) f args n → n ≡ m)
    go w (found k) q h =
        let given = gives_same h in
        let same = ap (λ (x : Match). x.method) given in
        exact_found (model_of b) w f (used (model_of b) f tuple) m (q ∙ ap (λ (n : ℕ). found n) same)
        (rw (← same) (ap (λ (x : Match). x.is_exact) given))
    go w missing q h = absurd (false≢true (cc))
    go w (ambiguous k n) q h = absurd (false≢true (cc))

pub written_call : (b counts : List ℕ) (scratch f : ℕ) (tuple : List ℕ) (m : ℕ) → opening b ≡ gives counts → scratch_bytes ≤ scratch
    → send_rule (model_of b) f tuple ≡ true → WrittenFor (model_of b) f (used (model_of b) f tuple) m
    → lookup_call b scratch f tuple ≡ gives (record { method = m; is_exact = true })
unfolding lookup_call lookup_in found_answer with_scratch when_open on_opening require
written_call b counts scratch f tuple m opened long sent x =
    let (e, exactly) = written_found (model_of b) (opened_wellformed b counts opened) f (used (model_of b) f tuple) m x in
    rw (opened, le-leb scratch_bytes scratch long, sent, e, exactly)
