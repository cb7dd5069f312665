-- Wherever a call gives number 11, the two methods beside it are the newest rivals of the send that it names: the lookup call, the witness check, the check and
-- the run, of whatever bytes and lent lengths. The listing prints the verdict of the check.
-- Assumes nothing.
use Prim.Native.Nat.{ℕ}
use native.Mathlib.Omega.{arith}
use mathlib.Core.Path.{◌≡◌, refl, ap, ◌∙◌}
use mathlib.Core.Bool.{Bool, true, false, cond, false≢true}
use mathlib.Core.List.{List, [], ◌∷◌, ◌++◌}
use mathlib.Core.Option.{Option, none, some}
use Rattle.rules.specs.Layout.{gives, refuses, padded}
use Rattle.rules.specs.Model.{Model, model_of, Wellformed}
use Rattle.rules.specs.Subclass.{subclass}
use Rattle.rules.specs.Lookup.{Found, found, missing, ambiguous, lookup}
use Rattle.rules.specs.Types.{Typing, typed, breaks, type_body}
use Rattle.rules.specs.Coverage.{declared_hold, Judgement, holds, fails, judge_found, judge, broken_tuple, broken_signature, broken_method, coverage_refusal, body_refusal, body_verdict, tuple_verdict, coverage_verdict, verdict}
use Rattle.rules.specs.Machine.{Ending, stopped, enters, stops, stopped_at, target_found, target, Outcome, run}
use Rattle.rules.specs.Calls.{send_rule, used, found_answer, lookup_in, lookup_call, check_call, witness_rule, witness_answer, witness_in, witness_call, run_rule, run_in, run_call}
use Rattle.rules.proofs.Opening.{require_passed}
use Rattle.rules.proofs.Lookup.{NewestRivals, lookup_rivals}
use Rattle.rules.proofs.Types.{body_number}
use Rattle.rules.proofs.Machine.{Endings, run_ends}
use Rattle.rules.proofs.Calls.{refuses_number, called_gives, called_refuses, required_refuses}

-- the methods named beside a send are its newest rivals
pub record Named (M : Model) (f : ℕ) (args ms : List ℕ) : Type 0 where
  pub newest : ℕ
  pub next : ℕ
  pub both : ms ≡ newest ∷ next ∷ []
  pub rivals : NewestRivals M f args newest next

-- the values beside 11 name a send so; or a signature, with a send of its function
abbrev pub NamesSend : Model → List ℕ → Type 0
NamesSend M vs = (f : ℕ) × (args : List ℕ) × (ms : List ℕ) × (vs ≡ f ∷ padded args ++ ms) × Named M f args ms

abbrev pub NamesSignature : Model → List ℕ → Type 0
NamesSignature M vs =
    (s : ℕ) × (args : List ℕ) × (ms : List ℕ) × (vs ≡ s ∷ M.sig_function s ∷ padded args ++ ms) × Named M (M.sig_function s) args ms

-- equal outcomes have one number
fails_number : {a b : ℕ} {xs ys : List ℕ} → fails a xs ≡ fails b ys → a ≡ b
fails_number e = cc

stops_number : {a b : ℕ} {xs ys : List ℕ} → stops a xs ≡ stops b ys → a ≡ b
stops_number e = cc

stopped_number : {a b : ℕ} {xs ys : List ℕ} → stopped a xs ≡ stopped b ys → a ≡ b
stopped_number e = cc

-- What is found of a send, by lookup, by the coverage rule and by a run.
module _ (M : Model) (w : Wellformed M) where
  ambiguous_named : (f : ℕ) (args ms : List ℕ) (m n : ℕ) → lookup M f args ≡ ambiguous m n → ms ≡ m ∷ n ∷ [] → Named M f args ms
  ambiguous_named f args ms m n e both = record { newest = m; next = n; both = both; rivals = (lookup_rivals M w f args m n).0 e }

  pub judge_named : (s : ℕ) (args ms : List ℕ) → judge M s args ≡ fails 11 ms → Named M (M.sig_function s) args ms
  unfolding judge judge_found
  judge_named s args ms e = go (lookup M (M.sig_function s) args) refl e
    where
      held : (m : ℕ) (t u : Bool) → cond t (cond u (holds m) (fails 13 (m ∷ []))) (fails 12 (m ∷ [])) ≡ fails 11 ms → ⊥
      held m true true q = false≢true (cc)
      held m true false q = omega (arith, fails_number q)
      held m false u q = omega (arith, fails_number q)

      go : (r : Found) → lookup M (M.sig_function s) args ≡ r → judge_found M s args r ≡ fails 11 ms → Named M (M.sig_function s) args ms
      go missing q h = absurd (omega (arith, fails_number h))
      go (ambiguous m n) q h = ambiguous_named (M.sig_function s) args ms m n q (cc)
      go (found m) q h = absurd (held m (declared_hold M m args) (subclass M (M.result m) (M.sig_result s)) h)

  pub target_named : (f : ℕ) (args ms : List ℕ) → target M f args ≡ stops 11 ms → Named M f args ms
  unfolding target target_found
  target_named f args ms e = go (lookup M f args) refl e
    where
      held : (m : ℕ) (t : Bool) → cond t (enters m) (stops 12 (m ∷ [])) ≡ stops 11 ms → ⊥
      held m true q = false≢true (cc)
      held m false q = omega (arith, stops_number q)

      go : (r : Found) → lookup M f args ≡ r → target_found M args r ≡ stops 11 ms → Named M f args ms
      go missing q h = absurd (omega (arith, stops_number h))
      go (ambiguous m n) q h = ambiguous_named f args ms m n q (cc)
      go (found m) q h = absurd (held m (declared_hold M m args) h)

  -- a run that 11 stops names one
  abbrev StopsAmbiguous : Ending → Type 0
  StopsAmbiguous e = (vs : List ℕ) → e ≡ stopped 11 vs → NamesSend M vs

  stops_ambiguous : Endings M StopsAmbiguous
  unfolding stopped_at
  stops_ambiguous =
      record {
        of_value = λ v vs e. absurd (false≢true (cc));
        of_depth = λ vs e. absurd (false≢true (cc));
        of_frame = λ number h g vs e. absurd (omega (arith, stopped_number e, h));
        of_send = λ f args number ms t vs e. (f, args, ms, cc, target_named f args ms (t ∙ ap (λ (n : ℕ). stops n ms) (stopped_number e)));
      }

  pub run_named : (f : ℕ) (args : List ℕ) (count : ℕ) → StopsAmbiguous (run M f args count).outcome.ending
  run_named f args count = run_ends M StopsAmbiguous stops_ambiguous (λ vs e. absurd (false≢true (cc))) f args count

  -- so does a tuple that is refused under a signature
  refusal_named : (s : ℕ) (args vs : List ℕ) (j : Judgement) → judge M s args ≡ j → coverage_refusal M s args j ≡ refuses 11 vs
      → (ms : List ℕ) × (vs ≡ s ∷ M.sig_function s ∷ padded args ++ ms) × Named M (M.sig_function s) args ms
  unfolding coverage_refusal
  refusal_named s args vs (holds m) q e = absurd (false≢true (cc))
  refusal_named s args vs (fails number ms) q e =
      (ms, cc, judge_named s args ms (q ∙ ap (λ (n : ℕ). fails n ms) (refuses_number e)))

-- A verdict of 11 is about a signature, since no body breaks by that number.
body_refused : (M : Model) (m : ℕ) (vs : List ℕ) (t : Typing) → type_body M m ≡ t → body_refusal m t ≡ refuses 11 vs → ⊥
unfolding body_refusal
body_refused M m vs typed q e = false≢true (cc)
body_refused M m vs (breaks number at) q e = omega (arith, body_number M m number at q, refuses_number e)

bodies_refused : (M : Model) (vs : List ℕ) (r : Option ℕ) → body_verdict M r ≡ refuses 11 vs → ⊥
unfolding body_verdict
bodies_refused M vs none e = false≢true (cc)
bodies_refused M vs (some m) e = body_refused M m vs (type_body M m) refl e

pub verdict_named : (M : Model) → Wellformed M → (vs : List ℕ) → verdict M ≡ refuses 11 vs → NamesSignature M vs
unfolding verdict coverage_verdict tuple_verdict
verdict_named M w vs e = go (broken_signature M) e
  where
    tuple : (s : ℕ) (r : Option (List ℕ)) → tuple_verdict M s r ≡ refuses 11 vs → NamesSignature M vs
    tuple s none q = absurd (false≢true (cc))
    tuple s (some args) q = let (ms, v, n) = refusal_named M w s args vs (judge M s args) refl q in (s, args, ms, v, n)

    go : (r : Option ℕ) → coverage_verdict M r ≡ refuses 11 vs → NamesSignature M vs
    go none q = absurd (bodies_refused M vs (broken_method M) q)
    go (some s) q = tuple s (broken_tuple M s) q

-- The calls, of any bytes and lent lengths.
pub lookup_call_named : (b : List ℕ) (scratch f : ℕ) (tuple vs : List ℕ) → lookup_call b scratch f tuple ≡ refuses 11 vs
    → (ms : List ℕ) × (vs ≡ f ∷ tuple ++ ms) × Named (model_of b) f (used (model_of b) f tuple) ms
unfolding lookup_call lookup_in found_answer
lookup_call_named b scratch f tuple vs e =
    let (w, q) = called_refuses b scratch (lookup_in f tuple) 11 vs (omega arith) (omega arith) e in
    go w (lookup (model_of b) f (used (model_of b) f tuple)) refl (required_refuses (send_rule (model_of b) f tuple) _ 11 vs (omega arith) q)
  where
    go : Wellformed (model_of b) → (r : Found) → lookup (model_of b) f (used (model_of b) f tuple) ≡ r → found_answer (model_of b) f tuple r ≡ refuses 11 vs
        → (ms : List ℕ) × (vs ≡ f ∷ tuple ++ ms) × Named (model_of b) f (used (model_of b) f tuple) ms
    go w (found m) q h = absurd (false≢true (cc))
    go w missing q h = absurd (omega (arith, refuses_number h))
    go w (ambiguous m n) q h = (m ∷ n ∷ [], cc, ambiguous_named (model_of b) w f (used (model_of b) f tuple) (m ∷ n ∷ []) m n q refl)

pub witness_call_named : (b : List ℕ) (scratch s : ℕ) (tuple vs : List ℕ) → witness_call b scratch s tuple ≡ refuses 11 vs
    → let f = (model_of b).sig_function s in
    let args = used (model_of b) f tuple in
    (ms : List ℕ) × (vs ≡ s ∷ f ∷ padded args ++ ms) × Named (model_of b) f args ms
unfolding witness_call witness_in witness_answer
witness_call_named b scratch s tuple vs e =
    let (w, q) = called_refuses b scratch (witness_in s tuple) 11 vs (omega arith) (omega arith) e in
    let M = model_of b in
    refusal_named M w s (used M (M.sig_function s) tuple) vs _ refl (required_refuses (witness_rule M s tuple) _ 11 vs (omega arith) q)

pub check_call_named : (b : List ℕ) (scratch : ℕ) (vs : List ℕ) → check_call b scratch ≡ refuses 11 vs → NamesSignature (model_of b) vs
unfolding check_call
check_call_named b scratch vs e = let (w, q) = called_refuses b scratch verdict 11 vs (omega arith) (omega arith) e in verdict_named (model_of b) w vs q

pub run_call_named : (b : List ℕ) (scratch f : ℕ) (tuple : List ℕ) (count : ℕ) (r : Outcome) (vs : List ℕ) → run_call b scratch f tuple count ≡ gives r
    → r.ending ≡ stopped 11 vs → NamesSend (model_of b) vs
unfolding run_call run_in
run_call_named b scratch f tuple count r vs e h =
    let (w, q) = called_gives b scratch (run_in f tuple count) r e in
    let M = model_of b in
    let (_, same) = require_passed (run_rule M f tuple) 18 _ q in
    let outcome : (run M f (used M f tuple) count).outcome ≡ r = cc (same) in
    run_named M w f (used M f tuple) count vs (ap (λ (o : Outcome). o.ending) outcome ∙ h)
