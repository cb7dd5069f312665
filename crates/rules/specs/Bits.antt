-- Bits of numbers, the lowest first, and sets of numbers as words of bits.
-- Assumes nothing.
use Rattle.std.specs.Prelude.{ℕ, ◌+◌, ◌*◌, ◌/◌, ◌%◌, ◌^◌, Bool, true, false, List, eqb, get_or}
use Rattle.rules.specs.Bounded.{sum}

-- a test as a bit
unfoldable pub bit : Bool → ℕ
bit true = 1
bit false = 0

-- bit i of a number, the lowest being bit 0
unfoldable pub bit_at : ℕ → ℕ → Bool
bit_at x i = eqb (x / 2 ^ i % 2) 1

-- the byte whose bits say at which of the numbers 0 to 7 a test passes
unfoldable pub byte_of : (ℕ → Bool) → ℕ
byte_of t = sum (λ i. bit (t i) * 2 ^ i) 8

-- number i is in the set whose words begin at a place of a list
unfoldable pub in_set : List ℕ → ℕ → ℕ → Bool
in_set words at i = bit_at (get_or words (at + i / 64) 0) (i % 64)
