-- What the functions on lent buffers and counts leave.
-- Assumes nothing.
use Rattle.std.specs.Prelude.{ℕ, ◌+◌, ◌%◌, ◌^◌, cond, List, nat_lt, slice_index, slice_set}

-- byte k of a filled buffer
abbrev pub filler : ℕ → ℕ → ℕ
filler zeros k = cond (nat_lt k zeros) 0 (128 + k % 127)

-- one more at place k, as far as a number of 64 bits goes
abbrev pub raised : ℕ → List ℕ → List ℕ
raised k counts = slice_set counts k ((slice_index counts k + 1) % 2 ^ 64)
