-- The rule on a call's send, and what a send that keeps it gives the layers below.
-- Assumes nothing.
use Prim.Native.Nat.{ℕ, zero, suc, ◌≤◌, ◌<◌}
use native.Mathlib.Omega.{arith}
use mathlib.Core.Path.{◌≡◌, refl, sym, ◌∙◌}
use mathlib.Core.Bool.{true, false}
use mathlib.Core.List.{List, [], ◌∷◌, ◌++◌}
use lib.Dec.{ltb}
use lib.ListN.{length, get_or, take, replicate, length-append, length-replicate}
use lib.Seq.{length-take-le, get_or-take, ext_get_or}
use borrow.Author.Tests.{lt-ltb, le-ltb, ltb-true}
use Rattle.rules.specs.Bounded.{every}
use Rattle.rules.specs.Layout.{tuple_rule, places, padded}
use Rattle.rules.specs.Model.{Model, model_of, present}
use Rattle.rules.specs.Coverage.{concrete_class}
use Rattle.rules.specs.Calls.{send_rule, used}
use Rattle.rules.proofs.Lists.{and_left, and_right, every_places, every_broken}
use Rattle.rules.proofs.Places.{used_places_read}
use Rattle.layout.specs.Opened.{Opened}
use Rattle.layout.specs.declared.bundle.Bundle.{Bundle}
use Rattle.layout.proofs.Opened.{counts_of, wellformed_of}
use Rattle.rules.proofs.Decides.{Decides}
use Rattle.subclasses.specs.Places.{InMatrix}
use Rattle.subclasses.proofs.Asked.{class_below}
use Rattle.sends.specs.Send.{Passes}

module _ {b : List ℕ} {t : Bundle} (o : Opened b t) (f : ℕ) (tuple : List ℕ) where
  pub absent_function : t.functions ≤ f → send_rule (model_of b) f tuple ≡ false
  unfolding send_rule
  absent_function h = rw (le-ltb f (model_of b).functions (rw (sym (counts_of o).functions) h))

  -- with the function present, the rule is that on the places
  pub present_function : {n : ℕ} → f < t.functions → n ≡ (model_of b).arity f → tuple_rule t.classes n tuple ≡ send_rule (model_of b) f tuple
  unfolding send_rule
  present_function h q = rw (lt-ltb f (model_of b).functions (rw (sym (counts_of o).functions) h), (counts_of o).classes, q)

-- a number read from a list of classes, or past its end, is a class
pub class_read : (M : Model) → 0 < M.classes → (xs : List ℕ) → present M xs ≡ true → (i : ℕ) → get_or xs i 0 < M.classes
unfolding present every
class_read M h [] e i = h
class_read M h (x ∷ xs) e zero = ltb-true x M.classes (and_left (ltb x M.classes) (every (λ c. ltb c M.classes) xs) e)
class_read M h (x ∷ xs) e (suc i) = class_read M h xs (and_right (ltb x M.classes) (every (λ c. ltb c M.classes) xs) e) i

-- What a send that keeps the rule is.
pub record Kept (b : List ℕ) (t : Bundle) (f : ℕ) (tuple : List ℕ) : Type 0 where
  pub function : f < t.functions
  pub passes : Passes (model_of b) f tuple ((model_of b).arity f) tuple
  pub in_matrix : InMatrix tuple

pub kept : {b : List ℕ} {t : Bundle} → Opened b t → (f : ℕ) (tuple : List ℕ) → length tuple ≡ places → send_rule (model_of b) f tuple ≡ true → Kept b t f tuple
unfolding send_rule tuple_rule present used
kept {b} {t} o f tuple l e =
    let M = model_of b in
    let h : f < M.functions = ltb-true f M.functions (and_left (ltb f M.functions) (tuple_rule M.classes (M.arity f) tuple) e) in
    let rule : tuple_rule M.classes (M.arity f) tuple ≡ true = and_right (ltb f M.functions) (tuple_rule M.classes (M.arity f) tuple) e in
    let limit = (wellformed_of o).arity_limit f h in
    record {
      function = omega (arith, (counts_of o).functions);
      passes =
          record {
            whole = refl;
            within = omega (arith, l);
            same = refl;
            arguments =
                record {
                  function = h;
                  arity = length-take-le (M.arity f) tuple (omega (arith, l));
                  classes = and_left (present M (take (M.arity f) tuple)) _ rule;
                };
          };
      in_matrix =
          λ i k.
          let read = class_read M (wellformed_of o).classes_some (take (M.arity f) tuple) (and_left (present M (take (M.arity f) tuple)) _ rule) i in
          omega (arith, read, used_places_read M.classes (M.arity f) tuple rule i, (wellformed_of o).classes_limit);
    }

-- The concrete ones among classes, by place.
pub concrete_decides : (M : Model) (args : List ℕ) → present M args ≡ true
    → Decides (every (concrete_class M) args) (λ i. M.concrete (get_or args i 0)) (length args)
unfolding concrete_class
concrete_decides M args e =
    record {
      holds = λ h. every_places (concrete_class M) args 0 (λ i k. at i k ∙ h i k);
      breaks = λ i k q. every_broken (concrete_class M) args 0 i k (at i k ∙ q);
    }
  where
    at : (i : ℕ) → i < length args → concrete_class M (get_or args i 0) ≡ M.concrete (get_or args i 0)
    at i k = rw (lt-ltb (get_or args i 0) M.classes (class_below M args e i k))

zeros_after : (xs : List ℕ) (k i : ℕ) → get_or (xs ++ replicate k 0) i 0 ≡ get_or xs i 0
zeros_after [] zero i = refl
zeros_after [] (suc k) zero = refl
zeros_after [] (suc k) (suc i) = zeros_after [] k i
zeros_after (x ∷ xs) k zero = refl
zeros_after (x ∷ xs) k (suc i) = zeros_after xs k i

-- the tuple that a send passes is its used places padded: the unused are 0
pub used_padded : (M : Model) (f : ℕ) (tuple : List ℕ) → length tuple ≡ places → send_rule M f tuple ≡ true → padded (used M f tuple) ≡ tuple
unfolding padded used send_rule
used_padded M f tuple l e =
    ext_get_or 0 (take places (take n tuple ++ replicate places 0)) tuple
    (length-take-le places (take n tuple ++ replicate places 0) long ∙ sym l)
    (λ i h. same i (omega (arith, h, length-take-le places (take n tuple ++ replicate places 0) long)))
  where
    n : ℕ
    n = M.arity f

    long : places ≤ length (take n tuple ++ replicate places 0)
    long = omega (arith, length-append (take n tuple) (replicate places 0), length-replicate {A = ℕ} places 0)

    same : (i : ℕ) → i < places → get_or (take places (take n tuple ++ replicate places 0)) i 0 ≡ get_or tuple i 0
    same i h =
        get_or-take places (take n tuple ++ replicate places 0) i 0 h ∙ zeros_after (take n tuple) places i
        ∙ used_places_read M.classes n tuple (and_right (ltb f M.functions) (tuple_rule M.classes n tuple) e) i
