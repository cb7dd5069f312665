-- Static types, the type of a send, the check of a body (M 7).
-- Assumes nothing.
use Rattle.std.specs.Prelude.{ℕ, suc, Bool, cond, ◌&&◌, List, [], ◌∷◌, map, reverse, eqb, leb, length, get_or, take, drop}
use Rattle.rules.specs.Numbers as numbers
use Rattle.rules.specs.Bounded.{upto, any, keep, matching}
use Rattle.rules.specs.Model.{Model, Instr, arg, new, send, resend}
use Rattle.rules.specs.Subclass.{subclass}
use Rattle.rules.specs.Lookup.{Found, found, missing, ambiguous}
use Rattle.rules.specs.Resend.{resend_target}

-- A static type is given by classes whose types it joins; the type of a class has every class above it, and itself (M 7.1).
abbrev pub Static : Type 0
Static = List ℕ

-- class b is in the type
unfoldable pub in_type : Model → Static → ℕ → Bool
in_type M t b = any (λ g. subclass M g b) t

-- the signature licenses arguments of these types: each of its classes is in the type of its place (M 7.2)
unfoldable pub licenses : Model → List Static → ℕ → Bool
licenses M types s = matching (in_type M) types (M.sig_args s)

unfoldable pub licensing : Model → ℕ → List Static → List ℕ
licensing M f types = keep (λ s. eqb (M.sig_function s) f && licenses M types s) (upto M.signatures)

-- the type of a send joins those of the results of all licensing signatures; without one it is empty, number 16 (M 7.2)
unfoldable pub send_type : Model → ℕ → List Static → Static
send_type M f types = map M.sig_result (licensing M f types)

-- what is known of an argument: it is under the specialiser and under the declared class of its place (M 7.2)
unfoldable pub arg_type : Model → ℕ → ℕ → Static
arg_type M m i = get_or (M.specialisers m) i 0 ∷ get_or (M.declared m) i 0 ∷ []

-- The arguments of a send of n places from a stack whose top comes first: the last argument lies topmost.
unfoldable pub arguments : {A : Type 0} → ℕ → List A → List A
arguments n stack = reverse (take n stack)

-- A body types, or breaks by a number at an instruction; one instruction leaves a stack of types, or breaks by a number.
pub data Typing : Type 0 where
  typed : Typing
  breaks : ℕ → ℕ → Typing

pub data Effect : Type 0 where
  leaves : List Static → Effect
  breaks_by : ℕ → Effect

-- a send whose type this is, with the stack below its arguments
unfoldable pub send_effect : Static → List Static → Effect
send_effect [] below = breaks_by numbers.no_licence
send_effect (c ∷ cs) below = leaves ((c ∷ cs) ∷ below)

-- what is known of each argument of m
unfoldable pub arg_types : Model → ℕ → List Static
arg_types M m = map (arg_type M m) (upto (M.arity (M.function m)))

-- the arguments of m suit method n: each declared class of n is in the type at its place (M 15.3)
unfoldable pub suits : Model → ℕ → ℕ → Bool
suits M m n = matching (in_type M) (arg_types M m) (M.declared n)

-- A resend in m with this target: it breaks by 25, 26 or 27, or leaves the type of the target's result class on the stack (M 15.3).
unfoldable pub resend_effect : Model → ℕ → List Static → Found → Effect
resend_effect M m stack missing = breaks_by numbers.no_overridden
resend_effect M m stack (ambiguous a b) = breaks_by numbers.ambiguous_resend
resend_effect M m stack (found n) = cond (suits M m n) (leaves ((M.result n ∷ []) ∷ stack)) (breaks_by numbers.narrow_target)

-- what an instruction does to the stack of types, or the number by which the body breaks there (M 7.2)
unfoldable pub effect : Model → ℕ → List Static → Instr → Effect
effect M m stack (arg i) = leaves (arg_type M m i ∷ stack)
effect M m stack (new c) = cond (M.concrete c) (leaves ((c ∷ []) ∷ stack)) (breaks_by numbers.abstract_new)
effect M m stack (send f) =
    cond (leb (M.arity f) (length stack))
    (send_effect (send_type M f (arguments (M.arity f) stack)) (drop (M.arity f) stack))
    (breaks_by numbers.bad_stack)
effect M m stack resend = resend_effect M m stack (resend_target M m)

-- the end of a body: one type is left, and the result class is in it (M 7.2)
unfoldable pub ending : Model → ℕ → ℕ → List Static → Typing
ending M m at [] = breaks numbers.bad_stack at
ending M m at (t ∷ []) = cond (in_type M t (M.result m)) typed (breaks numbers.loose_result at)
ending M m at (t ∷ u ∷ rest) = breaks numbers.bad_stack at

unfoldable pub after_effect : Effect → ℕ → (List Static → Typing) → Typing
after_effect (leaves stack) at continue = continue stack
after_effect (breaks_by number) at continue = breaks number at

-- the first instruction that breaks; the end counts as one more (M 7.3)
unfoldable pub type_from : Model → ℕ → ℕ → List Static → List Instr → Typing
type_from M m at stack [] = ending M m at stack
type_from M m at stack (i ∷ rest) = after_effect (effect M m stack i) at (λ next. type_from M m (suc at) next rest)

unfoldable pub type_body : Model → ℕ → Typing
type_body M m = type_from M m 0 [] (M.body m)
