-- A text that has grown.
-- Assumes nothing.
use Rattle.std.specs.Prelude.{ℕ, ◌+◌, ◌*◌, ◌≤◌, ◌≡◌, List, ◌++◌, length, get_or, take}
use Rattle.rules.specs.Layout.{places}

-- The room for the pieces of a finding's line: 32 bytes for a word and a number, so for the classes of a send, for what comes before the methods (three words
-- and the classes), for two methods and the line's end, and for the whole.
abbrev pub classes_room : ℕ
classes_room = 32 * places

abbrev pub send_room : ℕ
send_room = 96 + classes_room

abbrev pub methods_room : ℕ
methods_room = 76

abbrev pub finding_room : ℕ
finding_room = send_room + methods_room

-- What stood before the place is kept, the piece follows it, and the text ends at r, at most so many bytes on. The bytes from r on are as they were.
pub record Appended (most : ℕ) (old : List ℕ) (at : ℕ) (piece new : List ℕ) (r : ℕ) : Type 0 where
  pub onward : at ≤ r
  pub bound : r ≤ at + most
  pub same : length new ≡ length old
  pub text : take r new ≡ take at old ++ piece
  pub behind : (i : ℕ) → r ≤ i → get_or new i 0 ≡ get_or old i 0
