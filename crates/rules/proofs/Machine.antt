-- The run: what each way to end and Spent have in common a run's ending has; its steps never pass the count, Spent means that they equal it, a failing
-- instruction is not counted, and a larger count changes nothing where a smaller one did not end Spent.
-- Assumes nothing.
use Prim.Native.Nat.{ℕ, zero, suc, ◌≤◌}
use native.Mathlib.Omega.{arith}
use native.Mathlib.Nat.{not-suc-le-zero, le_of_suc-le-suc}
use mathlib.Core.Path.{◌≡◌, refl, ap}
use mathlib.Core.Bool.{Bool, true, false, cond, false≢true}
use mathlib.Core.Logic.{◌⊎◌, ⊎_elim}
use mathlib.Core.List.{List, [], ◌∷◌, ◌++◌}
use lib.Dec.{leb, ltb}
use lib.ListN.{length, drop}
use Rattle.rules.specs.Layout.{padded}
use Rattle.rules.specs.Model.{Model, Instr, arg, new, send, resend}
use Rattle.rules.specs.Lookup.{Found, found, missing, ambiguous}
use Rattle.rules.specs.Resend.{resend_target}
use Rattle.rules.specs.Types.{arguments}
use Rattle.rules.specs.Coverage.{declared_hold}
use Rattle.rules.specs.Machine.{Frame, Ending, value, spent, deep, stopped, Resumption, goes, ends, failed, stopped_at, settled, settle, Target, enters, stops, target, enter, call_target, call, after, resend_to, turn, Send, meeting, Resend, Progress, progress, landed, counted, start, pace_from, pace, sent_next, resent_next, Run, ending_now, finished, meets, run_from, run, max_frames}
use Rattle.rules.proofs.Runs.{ended_stays, Settles, Turns, Invariant, cond_turns, run_keeps, ends_so}

-- A resend whose target suits the arguments hands them to it, and the frame waits with its stack as it was.
pub resend_enters : (M : Model) (g : Frame) (callers : List Frame) (n : ℕ) → resend_target M g.method ≡ found n → declared_hold M n g.args ≡ true
    → turn M resend g callers ≡ enter M n g.args (after g g.stack ∷ callers)
unfolding turn resend_to enter
resend_enters M g callers n r h = rw (r, h)

-- a resend that is Deep has a target, whose declared classes hold the arguments: Deep is the last that is tried (M 15.4)
pub resend_deep : (M : Model) (g : Frame) (callers : List Frame) → turn M resend g callers ≡ failed deep
    → (n : ℕ) × (resend_target M g.method ≡ found n) × (declared_hold M n g.args ≡ true)
unfolding turn resend_to stopped_at
resend_deep M g callers e = go (resend_target M g.method) refl e
  where
    held : (n : ℕ) (t : Bool) → cond t (enter M n g.args (after g g.stack ∷ callers)) (failed (stopped_at 27 g)) ≡ failed deep → t ≡ true
    held n true h = refl
    held n false h = absurd (false≢true (cc))

    go : (r : Found) → resend_target M g.method ≡ r → resend_to M g callers r ≡ failed deep
        → (n : ℕ) × (resend_target M g.method ≡ found n) × (declared_hold M n g.args ≡ true)
    go missing q h = absurd (false≢true (cc))
    go (ambiguous a b) q h = absurd (false≢true (cc))
    go (found n) q h = (n, q, held n (declared_hold M n g.args) h)

-- What holds of each ending that an instruction or the end of a body can come to: of a value, of Deep, of the numbers from 14 on in a frame, and of what a send
-- stops by.
pub record Endings (M : Model) (P : Ending → Type 0) : Type 0 where
  pub of_value : (v : ℕ) → P (value v)
  pub of_depth : P deep
  pub of_frame : (number : ℕ) → 14 ≤ number → (g : Frame) → P (stopped_at number g)
  pub of_send : (f : ℕ) (args : List ℕ) (number : ℕ) (ms : List ℕ) → target M f args ≡ stops number ms → P (stopped number (f ∷ padded args ++ ms))

-- so it does of every run; of a frame, a send and a resend nothing is asked
abbrev AnyFrame : Frame → List Frame → Type 0
AnyFrame g gs = Unit {0}

abbrev AnySend : Send → Type 0
AnySend x = Unit {0}

abbrev AnyResend : Resend → Type 0
AnyResend x = Unit {0}

module _ (M : Model) (P : Ending → Type 0) (k : Endings M P) where
  settled_ends : (rest : List Instr) (stack : List ℕ) (g : Frame) (gs : List Frame) → Settles AnyFrame P (settled rest stack g) gs
  unfolding settled
  settled_ends (i ∷ rest) stack g gs = tt
  settled_ends [] [] g gs = k.of_frame 14 (omega arith) g
  settled_ends [] (v ∷ []) g [] = k.of_value v
  settled_ends [] (v ∷ []) g (h ∷ hs) = tt
  settled_ends [] (v ∷ w ∷ vs) g gs = k.of_frame 14 (omega arith) g

  enter_ends : (m : ℕ) (args : List ℕ) (gs : List Frame) → Turns AnyFrame P (enter M m args gs)
  unfolding enter
  enter_ends m args gs = cond_turns AnyFrame P (ltb (length gs) max_frames) _ _ tt k.of_depth

  call_ends : (f : ℕ) (args : List ℕ) (gs : List Frame) → Turns AnyFrame P (call M f args gs)
  unfolding call call_target
  call_ends f args gs = go (target M f args) refl
    where
      go : (t : Target) → target M f args ≡ t → Turns AnyFrame P (call_target M f args gs t)
      go (enters m) e = enter_ends m args gs
      go (stops number ms) e = k.of_send f args number ms e

  resend_ends : (g : Frame) (gs : List Frame) (r : Found) → Turns AnyFrame P (resend_to M g gs r)
  unfolding resend_to
  resend_ends g gs missing = k.of_frame 25 (omega arith) g
  resend_ends g gs (ambiguous a b) = k.of_frame 26 (omega arith) g
  resend_ends g gs (found n) =
      cond_turns AnyFrame P (declared_hold M n g.args) _ _ (enter_ends n g.args (after g g.stack ∷ gs)) (k.of_frame 27 (omega arith) g)

  turn_ends : (i : Instr) (g : Frame) (gs : List Frame) → Turns AnyFrame P (turn M i g gs)
  unfolding turn
  turn_ends (arg n) g gs = tt
  turn_ends (new c) g gs = cond_turns AnyFrame P (M.concrete c) _ _ tt (k.of_frame 15 (omega arith) g)
  turn_ends (send f) g gs =
      cond_turns AnyFrame P (leb (M.arity f) (length g.stack)) _ _
      (call_ends f (arguments (M.arity f) g.stack) (after g (drop (M.arity f) g.stack) ∷ gs))
      (k.of_frame 14 (omega arith) g)
  turn_ends resend g gs = resend_ends g gs (resend_target M g.method)

  ends_kept : Invariant M AnyFrame P AnySend AnyResend
  unfolding settle
  ends_kept = record { settling = λ g gs r. settled_ends g.rest g.stack g gs; turning = λ i g gs r. (turn_ends i g gs, λ x m. tt, λ x m. tt) }

  pub run_ends : P spent → (f : ℕ) (args : List ℕ) (count : ℕ) → P (run M f args count).outcome.ending
  run_ends never f args count =
      ends_so P _ never (run_keeps AnyFrame P ends_kept f args (call_ends f args []) tt count).2

-- Only running out of steps ends a run Spent: no instruction and no end of a body does.
abbrev Unspent : Ending → Type 0
Unspent e = e ≡ spent → ⊥

unspent : (M : Model) → Endings M Unspent
unfolding stopped_at
unspent M =
    record { of_value = λ v e. false≢true (cc); of_depth = λ e. false≢true (cc); of_frame = λ number h g e. false≢true (cc); of_send = λ f args number ms q e. false≢true (cc) }

-- what was not Spent with some of the count left is the same with more left
rest_more : (M : Model) (left more : ℕ) (p : Progress) → left ≤ more → ((run_from M left p).outcome.ending ≡ spent → ⊥)
    → run_from M more p ≡ run_from M left p
unfolding run_from meets finished ending_now
rest_more M zero more p h u = go p.next u
  where
    go : (l : Resumption) → (ending_now l ≡ spent → ⊥)
        → run_from M more (progress l p.steps) ≡ finished M (progress l p.steps)
    go (goes i g gs) n = absurd (n refl)
    go (ends e) n = ended_stays M more e p.steps
rest_more M (suc left) zero p h u = absurd (not-suc-le-zero h)
rest_more M (suc left) (suc more) p h u = ap (λ (r : Run). meets (sent_next M p.next) (resent_next M p.next) r) (rest_more M left more (pace M p) (le_of_suc-le-suc h) u)

-- a failing instruction ends the run with the steps made before it: of Deep and of refusals too, the failing instruction is not counted
pub failed_uncounted : (M : Model) (left steps : ℕ) (i : Instr) (g : Frame) (callers : List Frame) (e : Ending) → turn M i g callers ≡ failed e
    → (run_from M (suc left) (progress (goes i g callers) steps)).outcome ≡ record { ending = e; steps = steps }
unfolding run_from meets pace pace_from landed counted finished ending_now
failed_uncounted M left steps i g callers e q = rw q (ap (λ (r : Run). r.outcome) (ended_stays M left e steps))

unspent_run : (M : Model) (f : ℕ) (args : List ℕ) (count : ℕ)
    → let o = (run M f args count).outcome in (((o.ending ≡ spent) × (o.steps ≡ count)) ⊎ Unspent o.ending) × (o.steps ≤ count)
unspent_run M f args count =
    let (met, resends, ending, few) = run_keeps AnyFrame Unspent (ends_kept M Unspent (unspent M)) f args (call_ends M Unspent (unspent M) f args []) tt count in
    (ending, few)

pub steps_most : (M : Model) (f : ℕ) (args : List ℕ) (count : ℕ) → (run M f args count).outcome.steps ≤ count
steps_most M f args count = (unspent_run M f args count).1

pub spent_all : (M : Model) (f : ℕ) (args : List ℕ) (count : ℕ) → (run M f args count).outcome.ending ≡ spent → (run M f args count).outcome.steps ≡ count
spent_all M f args count e = ⊎_elim (λ q. q.1) (λ u. absurd (u e)) (unspent_run M f args count).0

pub run_more : (M : Model) (f : ℕ) (args : List ℕ) (count more : ℕ) → count ≤ more → ((run M f args count).outcome.ending ≡ spent → ⊥)
    → run M f args more ≡ run M f args count
unfolding run meets
run_more M f args count more h u = ap (λ (r : Run). meets (meeting M f args ∷ []) [] r) (rest_more M count more (start M f args) h u)
