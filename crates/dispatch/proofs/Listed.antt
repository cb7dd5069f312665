-- Lists of methods of one function, by position and by membership.
-- Assumes nothing.
use Prim.Native.Nat.{ℕ, ◌<◌}
use native.Mathlib.Omega.{arith}
use mathlib.Core.Path.{◌≡◌, refl, sym, ap, ◌∙◌}
use mathlib.Core.Bool.{true, not}
use mathlib.Core.List.{List, [], ◌∷◌, Memᴰ}
use Rattle.std.specs.Prelude.{Option, Some, None}
use lib.Dec.{ltb, eqb}
use lib.ListN.{length, get_or}
use borrow.Author.Tests.{ltb-true, lt-ltb, eqb-true, eq-eqb}
use Rattle.rules.specs.Model.{Model, model_of}
use Rattle.rules.specs.Lookup.{applicable, found, missing, leads, select}
use Rattle.rules.proofs.Lists.{and_left, and_right, and_both, every_mem, every_from, every_place, get_d_mem, keep_mem}
use Rattle.rules.proofs.Lookup.{applicable_candidate}
use Rattle.rules.proofs.Selection.{MethodOf, leading_selected}
use Rattle.layout.specs.declared.bundle.Bundle.{Bundle}
use Rattle.layout.specs.Opened.{Opened}
use Rattle.layout.proofs.Opened.{wellformed_of}
use Rattle.layout.specs.Arity.{OfArity}
use Rattle.dispatch.specs.Listed.{method_of, Listed, listed, Candidates, applicable_but, applicable_without}

pub method_of_lem : {M : Model} {f m : ℕ} → method_of M f m ≡ true → MethodOf M f m
unfolding method_of
method_of_lem {M} {f} {m} t =
    record {
      bound = ltb-true m M.methods (and_left (ltb m M.methods) (eqb (M.function m) f) t);
      of_function = eqb-true (M.function m) f (and_right (ltb m M.methods) (eqb (M.function m) f) t);
    }

pub each_method : {M : Model} {f : ℕ} {ms : List ℕ} → Listed M f ms → (n : ℕ) → Memᴰ n ms → MethodOf M f n
each_method {M} {f} {ms} (listed e) n h = method_of_lem (every_mem (method_of M f) ms e h)

pub method_at_lem : {M : Model} {f : ℕ} {ms : List ℕ} → Listed M f ms → (i : ℕ) → i < length ms → method_of M f (get_or ms i 0) ≡ true
method_at_lem {M} {f} {ms} (listed e) i l = every_place (method_of M f) ms 0 e i l

-- a method to choose from has as many arguments as its function
pub candidate_of : {M : Model} {f n m : ℕ} {ms : List ℕ} → Candidates M f n ms → MethodOf M f m → OfArity M n m
candidate_of {M} c m = record { bound = m.bound; arity = c.arity ∙ sym (ap M.arity m.of_function) }

pub candidate_at : {M : Model} {f n : ℕ} {ms : List ℕ} → Candidates M f n ms → (i : ℕ) → i < length ms → OfArity M n (get_or ms i 0)
candidate_at c i l = candidate_of c (method_of_lem (method_at_lem c.methods i l))

-- the applicable methods of a function, whichever is left out, are methods of it
pub applicable_listed : (M : Model) (f : ℕ) (args : List ℕ) (but : Option ℕ) → Listed M f (applicable_without M f args but)
unfolding method_of applicable_without applicable_but
applicable_listed M f args but = listed (every_from (method_of M f) (applicable_without M f args but) (λ m h. one m (among but h)))
  where
    one : (m : ℕ) → Memᴰ m (applicable M f args) → method_of M f m ≡ true
    one m h =
        let c = applicable_candidate M f args h in
        and_both (ltb m M.methods) (eqb (M.function m) f) (lt-ltb m M.methods c.bound) (eq-eqb (M.function m) f c.of_function)

    among : (but : Option ℕ) {m : ℕ} → Memᴰ m (applicable_without M f args but) → Memᴰ m (applicable M f args)
    among None h = h
    among (Some n) h = (keep_mem (λ m. not (eqb m n)) (applicable M f args) h).0

-- a method of the list that leads it is selected
pub leader_selected : {b : List ℕ} {t : Bundle} {f n m : ℕ} {ms : List ℕ} → Opened b t → Candidates (model_of b) f n ms → (i : ℕ) → i < length ms
    → m ≡ get_or ms i 0 → leads (model_of b) ms m ≡ true → found m ≡ select (model_of b) ms
leader_selected {b} {f = f} {m = m} {ms = ms} o c i l e leading =
    let member : Memᴰ m ms = rw e (get_d_mem ms i 0 l) in
    sym (leading_selected (model_of b) (wellformed_of o) f ms (each_method c.methods) m member leading)

-- none to choose from
pub empty_selected : (M : Model) (ms : List ℕ) → length ms ≡ 0 → select M ms ≡ missing
unfolding select
empty_selected M [] e = refl
empty_selected M (m ∷ ms) e = absurd (omega (arith, e))
