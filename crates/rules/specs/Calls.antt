-- The calls (M 10): each entry point's answer, and what scratch and row hold afterwards, on refusals too.
-- Assumes nothing.
use Rattle.std.specs.Prelude.{ℕ, Bool, cond, ◌&&◌, List, [], ◌∷◌, ◌++◌, map, ltb, leb, length, take, drop}
use Rattle.rules.specs.Numbers as numbers
use Rattle.rules.specs.Bounded.{upto, every}
use Rattle.rules.specs.Layout.{Answer, gives, refuses, opening, code_at, code_of, require, tuple_rule}
use Rattle.rules.specs.Model.{Model, model_of}
use Rattle.rules.specs.Subclass.{Ancestry, ancestry}
use Rattle.rules.specs.Bits.{bit}
use Rattle.rules.specs.Scratch.{scratch_bytes, matrix_byte}
use Rattle.rules.specs.Lookup.{Found, found, missing, ambiguous, lookup, exact}
use Rattle.rules.specs.Types.{Static, in_type, send_type}
use Rattle.rules.specs.Coverage.{concrete_class, covers, judge, coverage_refusal, verdict}
use Rattle.rules.specs.Machine.{Outcome, run}

-- the least length of a lent row (M 10.3)
abbrev pub row_bytes : ℕ
row_bytes = 128

module _ {A : Type 0} where
  unfoldable pub on_opening : Answer (List ℕ) → Model → (Model → Answer A) → Answer A
  on_opening (gives counts) M answer = answer M
  on_opening (refuses number values) M answer = refuses number values

  -- a call on a bundle that does not open says what opening says (M 3.1)
  unfoldable pub when_open : List ℕ → (Model → Answer A) → Answer A
  when_open b answer = on_opening (opening b) (model_of b) answer

  -- then 19
  unfoldable pub with_scratch : List ℕ → ℕ → (Model → Answer A) → Answer A
  with_scratch b scratch answer = when_open b (λ M. require (leb scratch_bytes scratch) numbers.short_scratch (answer M))

-- What follows 19 is a definition of its own for each call, over the model.
-- A call's send is a function and a number for each of the layout's places. 18 where the function or a class is absent, or an unused place is not 0 (M 10.4).
unfoldable pub send_rule : Model → ℕ → List ℕ → Bool
send_rule M f tuple = ltb f M.functions && tuple_rule M.classes (M.arity f) tuple

-- the argument classes at the used places
unfoldable pub used : Model → ℕ → List ℕ → List ℕ
used M f tuple = take (M.arity f) tuple

-- opening as a call (M 3.3)
unfoldable pub opening_call : List ℕ → Answer (List ℕ)
opening_call b = opening b

-- the ancestry call (M 4.2)
unfoldable pub ancestry_in : ℕ → ℕ → Model → Answer Ancestry
ancestry_in a c M = require (ltb a M.classes && ltb c M.classes) numbers.absent (gives (ancestry M a c))

unfoldable pub ancestry_call : List ℕ → ℕ → ℕ → ℕ → Answer Ancestry
ancestry_call b scratch a c = with_scratch b scratch (ancestry_in a c)

-- A lookup that finds a method gives it, and whether it is exact (M 5.7).
pub record Match : Type 0 where
  pub method : ℕ
  pub is_exact : Bool

unfoldable pub found_answer : Model → ℕ → List ℕ → Found → Answer Match
found_answer M f tuple (found m) = gives (record { method = m; is_exact = exact M (used M f tuple) m })
found_answer M f tuple missing = refuses numbers.no_method (f ∷ tuple)
found_answer M f tuple (ambiguous m n) = refuses numbers.ambiguous (f ∷ tuple ++ m ∷ n ∷ [])

-- the lookup call; abstract classes are let through (M 5.6)
unfoldable pub lookup_in : ℕ → List ℕ → Model → Answer Match
lookup_in f tuple M = require (send_rule M f tuple) numbers.absent (found_answer M f tuple (lookup M f (used M f tuple)))

unfoldable pub lookup_call : List ℕ → ℕ → ℕ → List ℕ → Answer Match
lookup_call b scratch f tuple = with_scratch b scratch (lookup_in f tuple)

unfoldable pub licensed : Static → Answer Static
licensed [] = refuses numbers.no_licence []
licensed (c ∷ cs) = gives (c ∷ cs)

-- the send type call; abstract classes are let through (M 7.5)
unfoldable pub send_type_in : ℕ → ℕ → List ℕ → Model → Answer Static
send_type_in row f tuple M =
    require (leb row_bytes row) numbers.short_buffer
    (require (send_rule M f tuple) numbers.absent (licensed (send_type M f (map (λ c. c ∷ []) (used M f tuple)))))

unfoldable pub send_type_call : List ℕ → ℕ → ℕ → ℕ → List ℕ → Answer Static
send_type_call b scratch row f tuple = with_scratch b scratch (send_type_in row f tuple)

-- the check call (M 7.4)
unfoldable pub check_call : List ℕ → ℕ → Answer (Unit {0})
check_call b scratch = with_scratch b scratch verdict

-- 18 of a witness: no such signature, an abstract class among the arguments, a tuple that the signature does not cover (M 10.4).
unfoldable pub witness_rule : Model → ℕ → List ℕ → Bool
witness_rule M s tuple =
    ltb s M.signatures
    && send_rule M (M.sig_function s) tuple
    && every (concrete_class M) (used M (M.sig_function s) tuple)
    && covers M s (used M (M.sig_function s) tuple)

-- the witness call: the coverage rule for one signature and one tuple (M 6.5)
unfoldable pub witness_answer : Model → ℕ → List ℕ → Answer (Unit {0})
witness_answer M s args = coverage_refusal M s args (judge M s args)

unfoldable pub witness_in : ℕ → List ℕ → Model → Answer (Unit {0})
witness_in s tuple M = require (witness_rule M s tuple) numbers.absent (witness_answer M s (used M (M.sig_function s) tuple))

unfoldable pub witness_call : List ℕ → ℕ → ℕ → List ℕ → Answer (Unit {0})
witness_call b scratch s tuple = with_scratch b scratch (witness_in s tuple)

-- the body view: a method's code (M 10.6)
unfoldable pub body_view_call : List ℕ → ℕ → Answer (List ℕ)
body_view_call b m = when_open b (λ M. require (ltb m M.methods) numbers.absent (gives (code_of b m)))

unfoldable pub start_on : Answer (List ℕ) → ℕ → ℕ
start_on (gives code) at = at
start_on (refuses number values) at = 0

-- where the part begins within the bundle; the empty part of a refusal begins where the bundle does
unfoldable pub body_view_start : List ℕ → ℕ → ℕ
body_view_start b m = start_on (body_view_call b m) (code_at b m)

-- 18 of a run: also where an argument class is abstract (M 8.1, 10.4)
unfoldable pub run_rule : Model → ℕ → List ℕ → Bool
run_rule M f tuple = send_rule M f tuple && every (concrete_class M) (used M f tuple)

-- the run call
unfoldable pub run_in : ℕ → List ℕ → ℕ → Model → Answer Outcome
run_in f tuple count M =
    require (run_rule M f tuple) numbers.absent (gives (run M f (used M f tuple) count).outcome)

unfoldable pub run_call : List ℕ → ℕ → ℕ → List ℕ → ℕ → Answer Outcome
run_call b scratch f tuple count = with_scratch b scratch (run_in f tuple count)

-- the first n bytes are these, and those behind them stay
unfoldable pub overwrite : ℕ → (ℕ → ℕ) → List ℕ → List ℕ
overwrite n new old = map new (upto n) ++ drop n old

unfoldable pub scratch_on : Answer (List ℕ) → Model → List ℕ → List ℕ
scratch_on (gives counts) M scratch = cond (leb scratch_bytes (length scratch)) (overwrite scratch_bytes (matrix_byte M) scratch) scratch
scratch_on (refuses number values) M scratch = scratch

-- The scratch stays where the bundle does not open or the scratch is too short, and else holds the matrix: the same after every call that takes it (M 10.2).
unfoldable pub scratch_after : List ℕ → List ℕ → List ℕ
scratch_after b scratch = scratch_on (opening b) (model_of b) scratch

unfoldable pub row_on : Answer Static → Model → List ℕ → List ℕ
row_on (gives t) M row = overwrite row_bytes (λ k. bit (in_type M t k)) row
row_on (refuses number values) M row = row

-- the row: a 1 for each class of the type, where the call gives one; as it was after any refusal, by 16 too (M 10.3)
unfoldable pub row_after : List ℕ → ℕ → List ℕ → ℕ → List ℕ → List ℕ
row_after b scratch row f tuple = row_on (send_type_call b scratch (length row) f tuple) (model_of b) row
