-- The arrays of a run: of each frame three numbers, and bytes for its argument classes and its values, bottom first.
-- Assumes nothing.
use Rattle.std.specs.Prelude.{ℕ, ◌+◌, ◌*◌, ◌≤◌, ◌<◌, List, length, get_or, set}
use Rattle.std.proofs.Math.Seq.{paste}
use Rattle.rules.specs.Layout.{places}
use Rattle.rules.specs.Machine.{max_frames}

-- the numbers of a frame, the values that it can have, and its bytes
abbrev pub frame_numbers : ℕ
frame_numbers = 3

abbrev pub stack_room : ℕ
stack_room = 64

abbrev pub frame_bytes : ℕ
frame_bytes = places + stack_room

-- the numbers of frame k: its method, the number of its next instruction, the height of its stack
abbrev pub method_at : List ℕ → ℕ → ℕ
method_at fs k = get_or fs (frame_numbers * k) 0

abbrev pub next_at : List ℕ → ℕ → ℕ
next_at fs k = get_or fs (frame_numbers * k + 1) 0

abbrev pub height_at : List ℕ → ℕ → ℕ
height_at fs k = get_or fs (frame_numbers * k + 2) 0

-- where the values of frame k begin, behind its argument classes
abbrev pub stack_at : ℕ → ℕ
stack_at k = frame_bytes * k + places

-- the arrays have room for every frame, and k is one
pub record HasFrame (fs : List ℕ) (k : ℕ) : Type 0 where
  pub few : k < max_frames
  pub long : frame_numbers * max_frames ≤ length fs

pub record HasStack (vs : List ℕ) (k : ℕ) : Type 0 where
  pub few : k < max_frames
  pub long : frame_bytes * max_frames ≤ length vs

-- What the arrays hold after a value v is put on the stack of frame k, after values are taken off, after an instruction is passed,
abbrev pub raised : List ℕ → ℕ → List ℕ
raised fs k = set fs (frame_numbers * k + 2) (height_at fs k + 1)

abbrev pub laid : List ℕ → List ℕ → ℕ → ℕ → List ℕ
laid fs vs k v = set vs (stack_at k + height_at fs k) v

abbrev pub lowered : List ℕ → ℕ → ℕ → List ℕ
lowered fs k h = set fs (frame_numbers * k + 2) h

abbrev pub passed : List ℕ → ℕ → List ℕ
passed fs k = set fs (frame_numbers * k + 1) (next_at fs k + 1)

-- and after frame k is opened for method m, with these argument classes.
abbrev pub begun : List ℕ → ℕ → ℕ → List ℕ
begun fs k m = set (set (set fs (frame_numbers * k) m) (frame_numbers * k + 1) 0) (frame_numbers * k + 2) 0

abbrev pub given : List ℕ → ℕ → List ℕ → List ℕ
given vs k args = paste vs (frame_bytes * k) args (length args)
