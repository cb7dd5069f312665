-- The frames of a run as the arrays hold them.
-- Assumes nothing.
use Rattle.std.specs.Prelude.{ℕ, zero, suc, ◌+◌, ◌*◌, ◌≤◌, ◌<◌, ◌≡◌, true, List, [], ◌∷◌, length, get_or, drop}
use Rattle.rules.specs.Bytes.{part}
use Rattle.rules.specs.Layout.{places}
use Rattle.rules.specs.Model.{Model, Instr, arg, present}
use Rattle.rules.specs.Machine.{Frame, Resumption, Turn, resume, turn, max_frames}
use Rattle.frames.specs.Arrays.{frame_numbers, frame_bytes, stack_room, method_at, next_at, height_at, stack_at}

-- so many values from a place on, the top first
abbrev pub stack_from : List ℕ → ℕ → ℕ → List ℕ
stack_from vs base zero = []
stack_from vs base (suc h) = get_or vs (base + h) 0 ∷ stack_from vs base h

-- frame k of a method at its instruction, with so many values
abbrev pub frame_with : Model → List ℕ → ℕ → ℕ → ℕ → ℕ → Frame
frame_with M vs k m at h =
    record {
      method = m;
      args = part vs (frame_bytes * k) (M.arity (M.function m));
      at = at;
      rest = drop at (M.body m);
      stack = stack_from vs (stack_at k) h;
    }

unfoldable pub frame_of : Model → List ℕ → List ℕ → ℕ → Frame
frame_of M fs vs k = frame_with M vs k (method_at fs k) (next_at fs k) (height_at fs k)

-- the frames below number k, the topmost first
unfoldable pub callers_of : Model → List ℕ → List ℕ → ℕ → List Frame
callers_of M fs vs zero = []
callers_of M fs vs (suc k) = frame_of M fs vs k ∷ callers_of M fs vs k

-- what the run comes to from frame k on top, before its next instruction or at the end of its body
unfoldable pub resumed : Model → List ℕ → List ℕ → ℕ → Resumption
resumed M fs vs k = resume (frame_of M fs vs k) (callers_of M fs vs k)

-- the next instruction of frame k, and a frame with its next instruction split off
abbrev pub next_of : Model → List ℕ → ℕ → Instr
next_of M fs k = get_or (M.body (method_at fs k)) (next_at fs k) (arg 0)

unfoldable pub split : Model → Frame → Frame
split M g = record { method = g.method; args = g.args; at = g.at; rest = drop (suc g.at) (M.body g.method); stack = g.stack }

-- one instruction of frame k, with that instruction split off
unfoldable pub turn_at : Model → List ℕ → List ℕ → ℕ → Instr → Turn
turn_at M fs vs k i = turn M i (split M (frame_of M fs vs k)) (callers_of M fs vs k)

-- A frame that the arrays have room for: a method of the bundle, an instruction of its body or the end, argument classes and values of the bundle,
-- and no more values than instructions passed, less those for which the frame still waits.
pub record FrameFits (M : Model) (waits : ℕ) (g : Frame) : Type 0 where
  pub method_present : g.method < M.methods
  pub arity_few : M.arity (M.function g.method) ≤ places
  pub inside : g.at ≤ length (M.body g.method)
  pub short : g.at ≤ stack_room
  pub room : waits + length g.stack ≤ g.at
  pub args_present : present M g.args ≡ true
  pub values_present : present M g.stack ≡ true

-- each of the callers waits for one value
abbrev pub Waits : Model → List Frame → Type 0
Waits M [] = Unit {0}
Waits M (g ∷ gs) = FrameFits M 1 g × Waits M gs

-- Data types, so that proofs pass them on whole. The arrays hold n frames that wait;
pub data Waiting (M : Model) (fs vs : List ℕ) (n : ℕ) : Type 0 where
  waiting : frame_numbers * max_frames ≤ length fs → frame_bytes * max_frames ≤ length vs → n ≤ max_frames → Waits M (callers_of M fs vs n)
      → Waiting M fs vs n

-- frame k above those that wait;
pub data Held (M : Model) (fs vs : List ℕ) (k : ℕ) : Type 0 where
  held : k < max_frames → FrameFits M 0 (frame_of M fs vs k) → Waiting M fs vs k → Held M fs vs k

-- frame k with an instruction left.
pub data Going (M : Model) (fs vs : List ℕ) (k : ℕ) : Type 0 where
  going : next_at fs k < length (M.body (method_at fs k)) → Held M fs vs k → Going M fs vs k
