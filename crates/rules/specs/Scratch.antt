-- How the scratch holds which class is under which, one bit for each two numbers below the limit on classes (M 10.2).
-- Assumes nothing.
use Rattle.std.specs.Prelude.{ℕ, ◌+◌, ◌*◌, ◌/◌, ◌%◌, Bool, ◌&&◌, List, ltb, get_or}
use Rattle.rules.specs.Bits.{bit_at, byte_of}
use Rattle.rules.specs.Model.{Model}
use Rattle.rules.specs.Subclass.{subclass}

-- the bytes of the matrix, the least length of a lent scratch; and those of one of its rows
abbrev pub scratch_bytes : ℕ
scratch_bytes = 2048

abbrev pub matrix_row : ℕ
matrix_row = 16

-- both numbers are classes, and the one is under the other
unfoldable pub class_under : Model → ℕ → ℕ → Bool
class_under M a c = ltb a M.classes && ltb c M.classes && subclass M a c

-- the bit of a scratch for class a and class c
unfoldable pub entry_at : List ℕ → ℕ → ℕ → Bool
entry_at s a c = bit_at (get_or s (matrix_row * a + c / 8) 0) (c % 8)

-- byte k of the matrix: its bits say of eight numbers, the first by the lowest bit, whether the class of the row is under them
unfoldable pub matrix_byte : Model → ℕ → ℕ
matrix_byte M k = byte_of (λ i. class_under M (k / matrix_row) (8 * (k % matrix_row) + i))
