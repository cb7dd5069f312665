-- A reply that is handed over.
-- Assumes nothing.
use Prim.Native.Nat.{ℕ}
use mathlib.Core.Path.{◌≡◌, ap, ◌∙◌}
use mathlib.Core.List.{List}
use lib.ListN.{length}
use borrow.Author.Tests.{le-leb, lt-leb}
use Rattle.rules.specs.Layout.{require}
use Rattle.lines.specs.Text as text
use Rattle.reply.specs.declared.Reply.{Reply}
use Rattle.std.specs.Prelude.{Result, Ok, Err}
use Rattle.text.specs.declared.listing.ShortBuffer.{ShortBuffer}
use Rattle.text.specs.Listed.{Lists, listing_call, listing_after, listing_said}
use Rattle.curiumtoad_c.specs.Exported.{Handed}

pub handed_as : {x y : Reply} {number : ℕ} {values : List ℕ} → x ≡ y → Handed x number values → Handed y number values
handed_as e (n, v) = (n ∙ ap (λ (z : Reply). z.number) e, v ∙ ap (λ (z : Reply). z.values) e)

-- the same for an answer that is the call's
pub handed : {A : Type 0} (replied : A → Reply) {said call : A} {x : Reply} {number : ℕ} {values : List ℕ} → said ≡ call → x ≡ replied said
    → Handed x number values → Handed (replied call) number values
handed replied e q h = handed_as (q ∙ ap replied e) h

-- a listing in a buffer as its call
pub listed : (b : List ℕ) {old new : List ℕ} (r : Result ℕ ShortBuffer) → Lists b old new r → (listing_said r ≡ listing_call b (length old)) × (new ≡ listing_after b old)
unfolding listing_call listing_after require
listed b {old} (Ok n) w = let (e, h, q) = w.written in (rw (e, le-leb (length (text.listing b)) (length old) h), rw (le-leb (length (text.listing b)) (length old) h) q)
listed b {old} (Err e) w = let (h, q) = w.written in (rw (lt-leb (length (text.listing b)) (length old) h), rw (lt-leb (length (text.listing b)) (length old) h) q)
