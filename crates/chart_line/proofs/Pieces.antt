-- A line that is written piece by piece into a lent buffer.
-- Assumes nothing.
use Prim.Native.Nat.{ℕ, ◌+◌}
use mathlib.Core.Path.{◌≡◌, refl}
use mathlib.Core.List.{List, ◌++◌}
use lib.ListN.{length, take, drop, length-append}
use lib.Seq.{drop-drop, take-append_seam, drop-append-add}

-- the text that begins the buffer, with what was behind it
abbrev pub Begun : List ℕ → List ℕ → List ℕ → Type 0
Begun old text line = line ≡ text ++ drop (length text) old

-- one piece more
pub begun_more : (old text piece line new : List ℕ) (at : ℕ) → Begun old text line → at ≡ length text → new ≡ take at line ++ piece ++ drop (at + length piece) line
    → Begun old (text ++ piece) new
begun_more old text piece line new at b e n =
    rw (n, e, b, take-append_seam, drop-append-add, drop-drop, length-append) refl
