-- The promises of the functions that write the listing.
-- Assumes nothing.
use Rattle.std.specs.Prelude.{ℕ, ◌≤◌, ◌<◌, ◌≡◌, List, [], ◌++◌, cond, leb, length, take, drop, Result, Ok, Err}
use Rattle.rules.specs.Numbers as numbers
use Rattle.rules.specs.Layout.{Answer, gives, refuses, require}
use Rattle.answers.specs.Opening.{Opens}
use Rattle.layout.specs.declared.bundle.Bundle.{Bundle}
use Rattle.reply.specs.declared.Reply.{Reply}
use Rattle.reply.specs.Replies.{reply, line_length}
use Rattle.text.specs.declared.listing.ShortBuffer.{ShortBuffer}
use Rattle.lines.specs.Text as text

-- the bundle opens with these tables
abbrev pub OpenedAs : List ℕ → Bundle → Type 0
OpenedAs b t = Opens b (Ok t)

-- the first bytes are the text for the bundle
pub record Composed (b : List ℕ) (bytes : List ℕ) (r : ℕ) : Type 0 where
  pub fits : r ≤ length bytes
  pub written : take r bytes ≡ text.listing b

-- A text in a lent buffer: its length, with the bytes after it untouched; or the buffer is too short, and untouched.
abbrev pub Written : List ℕ → List ℕ → List ℕ → Result ℕ ShortBuffer → Type 0
Written text old new (Ok n) = (n ≡ length text) × (length text ≤ length old) × (new ≡ text ++ drop (length text) old)
Written text old new (Err e) = (length old < length text) × (new ≡ old)

-- the buffer was long enough
abbrev pub Told : Result ℕ ShortBuffer → Type 0
Told (Ok n) = Unit {0}
Told (Err e) = ⊥

-- the promise of the listing: the text for the bundle is in the buffer
pub record Lists (b old new : List ℕ) (r : Result ℕ ShortBuffer) : Type 0 where
  pub written : Written (text.listing b) old new r

-- The listing as a call with a buffer of so many bytes: the length of the text, or 20 where the buffer is shorter.
unfoldable pub listing_call : List ℕ → ℕ → Answer ℕ
listing_call b room = require (leb (length (text.listing b)) room) numbers.short_buffer (gives (length (text.listing b)))

-- the buffer: the text, and behind it what was there; as it was where it is shorter
unfoldable pub listing_after : List ℕ → List ℕ → List ℕ
listing_after b old = cond (leb (length (text.listing b)) (length old)) (text.listing b ++ drop (length (text.listing b)) old) old

-- what the answer says
abbrev pub listing_said : Result ℕ ShortBuffer → Answer ℕ
listing_said (Ok n) = gives n
listing_said (Err e) = refuses numbers.short_buffer []

-- the answer as a reply: the length, or the number of a row that is too short
abbrev pub listing_reply : Result ℕ ShortBuffer → Reply
listing_reply r = reply line_length (listing_said r)
