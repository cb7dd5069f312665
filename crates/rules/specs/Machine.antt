-- The stepper (M 8): frames, one instruction with the ends of bodies that follow it, the run, the sends that it meets and the resends that it comes to.
-- Assumes nothing.
use Rattle.std.specs.Prelude.{ℕ, zero, suc, ◌+◌, cond, List, [], ◌∷◌, ◌++◌, leb, ltb, length, get_or, drop}
use Rattle.rules.specs.Numbers as numbers
use Rattle.rules.specs.Layout.{padded}
use Rattle.rules.specs.Model.{Model, Instr, arg, new, send, resend}
use Rattle.rules.specs.Lookup.{Found, found, missing, ambiguous, lookup}
use Rattle.rules.specs.Resend.{resend_target}
use Rattle.rules.specs.Types.{arguments}
use Rattle.rules.specs.Coverage.{declared_hold}

-- the most frames of a run (M 8.2)
abbrev pub max_frames : ℕ
max_frames = 32

-- A method's activation; values are classes (M 8.1). `at` is the number of its next instruction, `rest` what is left of its body from there on,
-- `stack` its values with the top first.
pub record Frame : Type 0 where
  pub method : ℕ
  pub args : List ℕ
  pub at : ℕ
  pub rest : List Instr
  pub stack : List ℕ

-- How a run ends: with a value; Spent, the step budget used up; Deep, at the call depth limit; or stopped by a number with the values beside it.
pub data Ending : Type 0 where
  value : ℕ → Ending
  spent : Ending
  deep : Ending
  stopped : ℕ → List ℕ → Ending

-- Between instructions a run goes on with instruction i of a frame, whose `rest` then follows i, above its callers; or it ends.
pub data Resumption : Type 0 where
  goes : Instr → Frame → List Frame → Resumption
  ends : Ending → Resumption

-- An instruction is made, and leaves a frame above its callers; or it fails.
pub data Turn : Type 0 where
  made : Frame → List Frame → Turn
  failed : Ending → Turn

-- What a frame comes to between instructions: it goes on with its next one; its body has ended and returns its one value; or it has ended without just one.
pub data Settled : Type 0 where
  unfinished : Instr → Frame → Settled
  returned : ℕ → Settled
  unbalanced : Ending → Settled

-- a number with the frame's method and next instruction
unfoldable pub stopped_at : ℕ → Frame → Ending
stopped_at number g = stopped number (g.method ∷ g.at ∷ [])

-- a body that does not end with one value stops by 14 (M 8.4)
unfoldable pub settled : List Instr → List ℕ → Frame → Settled
settled (i ∷ rest) stack g = unfinished i (record { method = g.method; args = g.args; at = g.at; rest = rest; stack = stack })
settled [] [] g = unbalanced (stopped_at numbers.bad_stack g)
settled [] (v ∷ []) g = returned v
settled [] (v ∷ w ∷ vs) g = unbalanced (stopped_at numbers.bad_stack g)

unfoldable pub settle : Frame → Settled
settle g = settled g.rest g.stack g

unfoldable pub push : ℕ → Frame → Frame
push v g = record { method = g.method; args = g.args; at = g.at; rest = g.rest; stack = v ∷ g.stack }

-- what a run does with a frame, given what becomes of the value that its body returns
unfoldable pub proceed : Settled → List Frame → (ℕ → Resumption) → Resumption
proceed (unfinished i g) callers return = goes i g callers
proceed (returned v) callers return = return v
proceed (unbalanced e) callers return = ends e

-- the value of a body that ended is put on its caller's stack, and no step is counted; the value of the opening body ends the run (M 8.4)
unfoldable pub return_to : List Frame → ℕ → Resumption
return_to [] v = ends (value v)
return_to (h ∷ hs) v = proceed (settle (push v h)) hs (λ w. return_to hs w)

-- a frame above its callers, after the ends of bodies
unfoldable pub resume : Frame → List Frame → Resumption
resume g callers = proceed (settle g) callers (λ v. return_to callers v)

-- What a send comes to before frames are counted: the method whose frame it opens, or a number with the methods that it names.
pub data Target : Type 0 where
  enters : ℕ → Target
  stops : ℕ → List ℕ → Target

-- what a send finds: a method whose declared classes hold the arguments, or why the run stops, by 10, 11 or 12 (M 8.2)
unfoldable pub target_found : Model → List ℕ → Found → Target
target_found M args missing = stops numbers.no_method []
target_found M args (ambiguous m n) = stops numbers.ambiguous (m ∷ n ∷ [])
target_found M args (found m) = cond (declared_hold M m args) (enters m) (stops numbers.narrow_declared (m ∷ []))

unfoldable pub target : Model → ℕ → List ℕ → Target
target M f args = target_found M args (lookup M f args)

-- the frame of a method before its first instruction
unfoldable pub opened : Model → ℕ → List ℕ → Frame
opened M m args = record { method = m; args = args; at = 0; rest = M.body m; stack = [] }

-- the opening of a frame for method m above the callers; Deep where there are as many as there may be (M 8.2)
unfoldable pub enter : Model → ℕ → List ℕ → List Frame → Turn
enter M m args callers = cond (ltb (length callers) max_frames) (made (opened M m args) callers) (failed deep)

unfoldable pub call_target : Model → ℕ → List ℕ → List Frame → Target → Turn
call_target M f args callers (stops number ms) = failed (stopped number (f ∷ padded args ++ ms))
call_target M f args callers (enters m) = enter M m args callers

-- a send of f above the callers; the opening send has none
unfoldable pub call : Model → ℕ → List ℕ → List Frame → Turn
call M f args callers = call_target M f args callers (target M f args)

-- the frame after its instruction, with this stack
unfoldable pub after : Frame → List ℕ → Frame
after g stack = record { method = g.method; args = g.args; at = suc g.at; rest = g.rest; stack = stack }

-- A resend with this target hands the frame's arguments to it: 25, 26, 27 where its declared classes do not hold them, then Deep (M 15.4).
unfoldable pub resend_to : Model → Frame → List Frame → Found → Turn
resend_to M g callers missing = failed (stopped_at numbers.no_overridden g)
resend_to M g callers (ambiguous m n) = failed (stopped_at numbers.ambiguous_resend g)
resend_to M g callers (found n) =
    cond (declared_hold M n g.args) (enter M n g.args (after g g.stack ∷ callers)) (failed (stopped_at numbers.narrow_target g))

-- One instruction in the top frame (M 8.3). NEW of an abstract class is 15, a SEND with too few values 14.
unfoldable pub turn : Model → Instr → Frame → List Frame → Turn
turn M (arg i) g callers = made (after g (get_or g.args i 0 ∷ g.stack)) callers
turn M (new c) g callers = cond (M.concrete c) (made (after g (c ∷ g.stack)) callers) (failed (stopped_at numbers.abstract_new g))
turn M (send f) g callers =
    cond (leb (M.arity f) (length g.stack))
    (call M f (arguments (M.arity f) g.stack) (after g (drop (M.arity f) g.stack) ∷ callers))
    (failed (stopped_at numbers.bad_stack g))
turn M resend g callers = resend_to M g callers (resend_target M g.method)

-- A send that a run meets, with what the run finds for it.
pub record Send : Type 0 where
  pub function : ℕ
  pub args : List ℕ
  pub target : Target

unfoldable pub meeting : Model → ℕ → List ℕ → Send
meeting M f args = record { function = f; args = args; target = target M f args }

-- the send that a run meets at an instruction: that of a SEND for which the stack has values enough, with these as its arguments (M 8.7)
unfoldable pub sent : Model → Instr → Frame → List Send
sent M (arg i) g = []
sent M (new c) g = []
sent M (send f) g = cond (leb (M.arity f) (length g.stack)) (meeting M f (arguments (M.arity f) g.stack) ∷ []) []
sent M resend g = []

-- A resend that a run comes to: the method whose frame it is, the arguments there, and the target.
pub record Resend : Type 0 where
  pub method : ℕ
  pub args : List ℕ
  pub target : Found

-- the resend that a run comes to at an instruction (M 15.5)
unfoldable pub resent : Model → Instr → Frame → List Resend
resent M (arg i) g = []
resent M (new c) g = []
resent M (send f) g = []
resent M resend g = record { method = g.method; args = g.args; target = resend_target M g.method } ∷ []

-- A run on its way: what it goes on with or how it ended, and the steps that it made.
pub record Progress : Type 0 where
  pub next : Resumption
  pub steps : ℕ

abbrev pub progress : Resumption → ℕ → Progress
progress l n = record { next = l; steps = n }

-- what a run goes on with after a turn
unfoldable pub landed : Turn → Resumption
landed (made g callers) = resume g callers
landed (failed e) = ends e

-- an instruction that is made is one step, one that fails is none (M 8.5)
unfoldable pub counted : Turn → ℕ → ℕ
counted (made g callers) steps = steps + 1
counted (failed e) steps = steps

-- the run of a send at its start: what the opening send finds is no step (M 8.5)
unfoldable pub start : Model → ℕ → List ℕ → Progress
start M f args = progress (landed (call M f args [])) 0

-- One pace: an instruction, with the ends of bodies that follow it. A run that has ended makes no more.
unfoldable pub pace_from : Model → Resumption → ℕ → Progress
pace_from M (goes i g callers) steps = progress (landed (turn M i g callers)) (counted (turn M i g callers) steps)
pace_from M (ends e) steps = progress (ends e) steps

unfoldable pub pace : Model → Progress → Progress
pace M p = pace_from M p.next p.steps

-- the sends that it meets in its next pace
unfoldable pub sent_next : Model → Resumption → List Send
sent_next M (goes i g callers) = sent M i g
sent_next M (ends e) = []

-- the resend that stands before it, whether or not there is a pace left
unfoldable pub resent_next : Model → Resumption → List Resend
resent_next M (goes i g callers) = resent M i g
resent_next M (ends e) = []

-- how a run ends, and the steps it made (M 8.6)
pub record Outcome : Type 0 where
  pub ending : Ending
  pub steps : ℕ

-- A run: how it ends, the sends that it met and the resends that it came to, in their order.
pub record Run : Type 0 where
  pub outcome : Outcome
  pub met : List Send
  pub resends : List Resend

-- a run that makes no more paces is Spent, unless it has ended (M 8.5)
unfoldable pub ending_now : Resumption → Ending
ending_now (goes i g callers) = spent
ending_now (ends e) = e

unfoldable pub finished : Model → Progress → Run
finished M p = record { outcome = record { ending = ending_now p.next; steps = p.steps }; met = []; resends = resent_next M p.next }

-- a run that met these sends and came to these resends before
unfoldable pub meets : List Send → List Resend → Run → Run
meets sends resends r = record { outcome = r.outcome; met = sends ++ r.met; resends = resends ++ r.resends }

-- the run from some progress on, with so many paces left
unfoldable pub run_from : Model → ℕ → Progress → Run
run_from M zero p = finished M p
run_from M (suc left) p = meets (sent_next M p.next) (resent_next M p.next) (run_from M left (pace M p))

-- the run of a send: its start, and as many paces as the count says
unfoldable pub run : Model → ℕ → List ℕ → ℕ → Run
run M f args count = meets (meeting M f args ∷ []) [] (run_from M count (start M f args))
