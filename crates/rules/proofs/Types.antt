-- Static types: the type of a send holds what the result class of some licensing signature is under, and is the greatest lower bound of those results. A body
-- breaks by 14 or more.
-- Assumes nothing.
use Prim.Native.Nat.{ℕ, suc, ◌<◌, ◌≤◌}
use native.Mathlib.Omega.{arith}
use mathlib.Core.Path.{◌≡◌, refl, ap, subst, ◌∙◌}
use mathlib.Core.Bool.{Bool, true, false, cond, ◌&&◌, ◌||◌}
use mathlib.Core.Logic.{◌↔◌}
use mathlib.Core.List.Memᴰ
use mathlib.Core.List.{List, [], ◌∷◌, Memᴰ}
use lib.Dec.{eqb, leb}
use lib.ListN.{length, get_or, length-map, get_or-map}
use borrow.Author.Tests.{eqb-true, eq-eqb}
use Rattle.rules.specs.Bounded.{upto, any}
use Rattle.rules.specs.Model.{Model, Instr, arg, new, send, resend}
use Rattle.rules.specs.Subclass.{subclass}
use Rattle.rules.specs.Lookup.{Found, found, missing, ambiguous}
use Rattle.rules.specs.Resend.{resend_target}
use Rattle.rules.specs.Types.{Static, in_type, licenses, licensing, send_type, arg_type, arg_types, Typing, typed, breaks, Effect, leaves, breaks_by, send_effect, suits, resend_effect, effect, ending, after_effect, type_from, type_body}
use Rattle.rules.proofs.Lists.{and_left, and_right, and_both, any_mem, any_from, keep_mem, keep_in, upto_below, below_upto, length_upto, get_d_upto}

-- signature s licenses a send of f with arguments of these types
pub record Licence (M : Model) (f : ℕ) (types : List Static) (s : ℕ) : Type 0 where
  pub present : s < M.signatures
  pub of_function : M.sig_function s ≡ f
  pub licensed : licenses M types s ≡ true

pub licensing_licence : (M : Model) (f : ℕ) (types : List Static) {s : ℕ} → Memᴰ s (licensing M f types) → Licence M f types s
unfolding licensing
licensing_licence M f types {s} h =
    let (m, e) = keep_mem (λ s. eqb (M.sig_function s) f && licenses M types s) (upto M.signatures) h in
    record {
      present = upto_below M.signatures m;
      of_function = eqb-true (M.sig_function s) f (and_left (eqb (M.sig_function s) f) (licenses M types s) e);
      licensed = and_right (eqb (M.sig_function s) f) (licenses M types s) e;
    }

pub licence_licensing : (M : Model) (f : ℕ) (types : List Static) {s : ℕ} → Licence M f types s → Memᴰ s (licensing M f types)
unfolding licensing
licence_licensing M f types {s} l =
    keep_in (λ s. eqb (M.sig_function s) f && licenses M types s) (upto M.signatures) (below_upto M.signatures s l.present)
    (and_both (eqb (M.sig_function s) f) (licenses M types s) (eq-eqb (M.sig_function s) f l.of_function) l.licensed)

-- each class that generates the type of a send is the result of a licensing signature, and back
pub result_licence : (M : Model) (f : ℕ) (types : List Static) {c : ℕ} → Memᴰ c (send_type M f types)
    → (s : ℕ) × Licence M f types s × (M.sig_result s ≡ c)
unfolding send_type
result_licence M f types h =
    let (s, m, e) = Memᴰ.of_map M.sig_result (licensing M f types) h in
    (s, licensing_licence M f types m, e)

pub licence_result : (M : Model) (f : ℕ) (types : List Static) {s : ℕ} → Licence M f types s → Memᴰ (M.sig_result s) (send_type M f types)
unfolding send_type
licence_result M f types l = Memᴰ.map M.sig_result (licence_licensing M f types l)

-- a class is in the type of a send exactly when it is in the type of some licensing signature's result (M 7.2)
pub send_type_union : (M : Model) (f : ℕ) (types : List Static) (b : ℕ)
    → (in_type M (send_type M f types) b ≡ true) ↔ ((s : ℕ) × Licence M f types s × (subclass M (M.sig_result s) b ≡ true))
unfolding in_type
send_type_union M f types b = (
  λ e. let (c, m, u) = any_mem (λ g. subclass M g b) (send_type M f types) e in
      let (s, l, q) = result_licence M f types m in
      (s, l, rw q u),
  λ r. any_from (λ g. subclass M g b) (send_type M f types) (licence_result M f types r.1) r.2,
)

-- one type is below another when it has all the other's classes: a value of the one is a value of the other
pub record Below (M : Model) (t u : Static) : Type 0 where
  pub has : (b : ℕ) → in_type M u b ≡ true → in_type M t b ≡ true

-- The type of a send is the greatest lower bound of the Diesel report: it is below each licensing signature's result, and each type below all of these is below it.
pub send_type_lower : (M : Model) (f : ℕ) (types : List Static) (s : ℕ) → Licence M f types s → Below M (send_type M f types) (M.sig_result s ∷ [])
unfolding in_type any
send_type_lower M f types s l =
    record {
      has = λ b e.
          (send_type_union M f types b).1 (s, l, one (subclass M (M.sig_result s) b) e);
    }
  where
    one : (t : Bool) → (t || false) ≡ true → t ≡ true
    one true e = refl
    one false e = e

pub send_type_greatest : (M : Model) (f : ℕ) (types : List Static) (t : Static)
    → ((s : ℕ) → Licence M f types s → Below M t (M.sig_result s ∷ [])) → Below M t (send_type M f types)
unfolding in_type
send_type_greatest M f types t h =
    record {
      has = λ b e.
          let (s, l, u) = (send_type_union M f types b).0 e in
          (h s l).has b (any_from (λ g. subclass M g b) (M.sig_result s ∷ []) (Memᴰ.head refl) u);
    }

-- what is known of each argument, place by place
pub arg_types_length : (M : Model) (m : ℕ) → length (arg_types M m) ≡ M.arity (M.function m)
unfolding arg_types
arg_types_length M m = length-map (upto (M.arity (M.function m))) (arg_type M m) ∙ length_upto (M.arity (M.function m))

pub arg_type_at : (M : Model) (m i : ℕ) → i < M.arity (M.function m) → get_or (arg_types M m) i (arg_type M m 0) ≡ arg_type M m i
unfolding arg_types
arg_type_at M m i h = get_or-map (arg_type M m) (upto (M.arity (M.function m))) i 0 ∙ ap (arg_type M m) (get_d_upto (M.arity (M.function m)) i 0 h)

-- The numbers by which a body breaks.
abbrev Bodily : Typing → Type 0
Bodily typed = Unit {0}
Bodily (breaks number at) = 14 ≤ number

abbrev BodilyEffect : Effect → Type 0
BodilyEffect (leaves stack) = Unit {0}
BodilyEffect (breaks_by number) = 14 ≤ number

module _ (M : Model) where
  send_bodily : (t : Static) (below : List Static) → BodilyEffect (send_effect t below)
  unfolding send_effect
  send_bodily [] below = omega arith
  send_bodily (c ∷ cs) below = tt

  cond_bodily : (t : Bool) (p q : Effect) → BodilyEffect p → BodilyEffect q → BodilyEffect (cond t p q)
  cond_bodily true p q h k = h
  cond_bodily false p q h k = k

  resend_bodily : (m : ℕ) (stack : List Static) (r : Found) → BodilyEffect (resend_effect M m stack r)
  unfolding resend_effect
  resend_bodily m stack missing = omega arith
  resend_bodily m stack (ambiguous a b) = omega arith
  resend_bodily m stack (found n) = cond_bodily (suits M m n) _ _ tt (omega arith)

  effect_bodily : (m : ℕ) (stack : List Static) (i : Instr) → BodilyEffect (effect M m stack i)
  unfolding effect
  effect_bodily m stack (arg k) = tt
  effect_bodily m stack (new c) = cond_bodily (M.concrete c) _ _ tt (omega arith)
  effect_bodily m stack (send f) = cond_bodily (leb (M.arity f) (length stack)) _ _ (send_bodily _ _) (omega arith)
  effect_bodily m stack resend = resend_bodily m stack (resend_target M m)

  ending_bodily : (m at : ℕ) (stack : List Static) → Bodily (ending M m at stack)
  unfolding ending
  ending_bodily m at [] = omega arith
  ending_bodily m at (t ∷ []) = go (in_type M t (M.result m))
    where
      go : (t : Bool) → Bodily (cond t typed (breaks 17 at))
      go true = tt
      go false = omega arith
  ending_bodily m at (t ∷ u ∷ rest) = omega arith

  from_bodily : (m at : ℕ) (stack : List Static) (rest : List Instr) → Bodily (type_from M m at stack rest)
  unfolding type_from after_effect
  from_bodily m at stack [] = ending_bodily m at stack
  from_bodily m at stack (i ∷ rest) = go (effect M m stack i) (effect_bodily m stack i) (λ next. from_bodily m (suc at) next rest)
    where
      go : (e : Effect) → BodilyEffect e → ((next : List Static) → Bodily (type_from M m (suc at) next rest))
          → Bodily (after_effect e at (λ next. type_from M m (suc at) next rest))
      go (leaves next) h later = later next
      go (breaks_by number) h later = h

  pub body_number : (m number at : ℕ) → type_body M m ≡ breaks number at → 14 ≤ number
  unfolding type_body
  body_number m number at e = subst Bodily e (from_bodily m 0 [] (M.body m))
