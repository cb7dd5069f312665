-- A bundle is a list of bytes: how a byte, a two-byte number and a part of it are read.
-- Assumes nothing.
use Rattle.std.specs.Prelude.{ℕ, ◌+◌, ◌*◌, List, get_or, take, drop}

unfoldable pub byte : List ℕ → ℕ → ℕ
byte b i = get_or b i 0

-- a number of two bytes, the low one first (M 2.1)
unfoldable pub word : List ℕ → ℕ → ℕ
word b i = byte b i + 256 * byte b (i + 1)

-- the n bytes from place i on
unfoldable pub part : List ℕ → ℕ → ℕ → List ℕ
part b i n = take n (drop i b)
