-- Coverage (M 6; what the Diesel report calls a complete, consistent and conforming implementation of a signature), and the verdict.
-- Assumes nothing.
use Rattle.std.specs.Prelude.{ℕ, ◌≡◌, Bool, true, false, cond, ◌&&◌, List, [], ◌∷◌, ◌++◌, map, ltb, eqb}
use Rattle.std.proofs.Math.Option.{Option, none, some}
use Rattle.rules.specs.Numbers as numbers
use Rattle.rules.specs.Bounded.{upto, every, any, keep, first}
use Rattle.rules.specs.Layout.{Answer, gives, refuses, padded}
use Rattle.rules.specs.Model.{Model}
use Rattle.rules.specs.Subclass.{subclass, under}
use Rattle.rules.specs.Lookup.{Found, found, missing, ambiguous, lookup}
use Rattle.rules.specs.Types.{Typing, typed, breaks, type_body}

-- a signature covers the tuples whose classes are under its own, place by place (M 6.1)
unfoldable pub covers : Model → ℕ → List ℕ → Bool
covers M s args = under M args (M.sig_args s)

-- signature s is one of function f and covers the arguments
unfoldable pub covers_send : Model → ℕ → List ℕ → ℕ → Bool
covers_send M f args s = eqb (M.sig_function s) f && covers M s args

-- some signature covers a send
unfoldable pub is_covered : Model → ℕ → List ℕ → Bool
is_covered M f args = any (covers_send M f args) (upto M.signatures)

-- the declared classes of m hold the arguments: each argument is under the one at its place (M 6.2)
unfoldable pub declared_hold : Model → ℕ → List ℕ → Bool
declared_hold M m args = under M args (M.declared m)

-- The coverage rule for one tuple: it holds with a method, or fails by a number that names methods.
pub data Judgement : Type 0 where
  holds : ℕ → Judgement
  fails : ℕ → List ℕ → Judgement

-- The coverage rule (M 6.2): lookup finds a method, whose declared classes hold the arguments and whose result is under the signature's. The reasons to
-- fail are tried in the order of their numbers, 10 to 13.
unfoldable pub judge_found : Model → ℕ → List ℕ → Found → Judgement
judge_found M s args missing = fails numbers.no_method []
judge_found M s args (ambiguous m n) = fails numbers.ambiguous (m ∷ n ∷ [])
judge_found M s args (found m) =
    cond (declared_hold M m args)
    (cond (subclass M (M.result m) (M.sig_result s)) (holds m) (fails numbers.wide_result (m ∷ [])))
    (fails numbers.narrow_declared (m ∷ []))

unfoldable pub judge : Model → ℕ → List ℕ → Judgement
judge M s args = judge_found M s args (lookup M (M.sig_function s) args)

unfoldable pub failing : Judgement → Bool
failing (holds m) = false
failing (fails number ms) = true

-- a concrete class of the bundle
unfoldable pub concrete_class : Model → ℕ → Bool
concrete_class M c = ltb c M.classes && M.concrete c

-- k is a concrete class under class c
abbrev pub candidate_class : Model → ℕ → ℕ → Bool
candidate_class M c k = concrete_class M k && subclass M k c

-- the concrete classes under c, in number order
unfoldable pub concrete_under : Model → ℕ → List ℕ
concrete_under M c = keep (candidate_class M c) (upto M.classes)

-- each list with each element in front of it, the elements turning slowest
unfoldable pub prefixed : List ℕ → List (List ℕ) → List (List ℕ)
prefixed [] tails = []
prefixed (k ∷ ks) tails = map (λ t. k ∷ t) tails ++ prefixed ks tails

-- the tuples of concrete classes under the given ones, place by place; of no classes there is the empty one (M 6.3)
unfoldable pub tuples : Model → List ℕ → List (List ℕ)
tuples M [] = [] ∷ []
tuples M (c ∷ cs) = prefixed (concrete_under M c) (tuples M cs)

-- what it is to be one of them: concrete classes, each under the class at its place
pub record Below (M : Model) (upper args : List ℕ) : Type 0 where
  pub concrete : every (concrete_class M) args ≡ true
  pub covered : under M args upper ≡ true

unfoldable pub broken_tuple : Model → ℕ → Option (List ℕ)
broken_tuple M s = first (λ t. failing (judge M s t)) (tuples M (M.sig_args s))

unfoldable pub is_some : {A : Type 0} → Option A → Bool
is_some none = false
is_some (some x) = true

-- the lowest broken signature (M 6.4)
unfoldable pub broken_signature : Model → Option ℕ
broken_signature M = first (λ s. is_some (broken_tuple M s)) (upto M.signatures)

unfoldable pub breaking : Typing → Bool
breaking typed = false
breaking (breaks number at) = true

-- the lowest method whose body breaks (M 7.3)
unfoldable pub broken_method : Model → Option ℕ
broken_method M = first (λ m. breaking (type_body M m)) (upto M.methods)

-- the refusal of a tuple under a signature, with what is named beside it (M 11)
unfoldable pub coverage_refusal : Model → ℕ → List ℕ → Judgement → Answer (Unit {0})
coverage_refusal M s args (holds m) = gives tt
coverage_refusal M s args (fails number ms) = refuses number (s ∷ M.sig_function s ∷ padded args ++ ms)

unfoldable pub body_refusal : ℕ → Typing → Answer (Unit {0})
body_refusal m typed = gives tt
body_refusal m (breaks number at) = refuses number (m ∷ at ∷ [])

unfoldable pub body_verdict : Model → Option ℕ → Answer (Unit {0})
body_verdict M none = gives tt
body_verdict M (some m) = body_refusal m (type_body M m)

-- the refusal of a signature with its first broken tuple; a signature that has none is not refused
unfoldable pub tuple_verdict : Model → ℕ → Option (List ℕ) → Answer (Unit {0})
tuple_verdict M s none = gives tt
tuple_verdict M s (some args) = coverage_refusal M s args (judge M s args)

-- signatures are judged before bodies (M 7.4)
unfoldable pub coverage_verdict : Model → Option ℕ → Answer (Unit {0})
coverage_verdict M none = body_verdict M (broken_method M)
coverage_verdict M (some s) = tuple_verdict M s (broken_tuple M s)

-- The verdict: accepted, or the lowest broken signature with its first broken tuple, or the lowest broken method.
unfoldable pub verdict : Model → Answer (Unit {0})
verdict M = coverage_verdict M (broken_signature M)
