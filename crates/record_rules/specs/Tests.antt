-- What each search of the code asks of one number: the parts of the rules that are about one place of a list.
-- Assumes nothing.
use Rattle.std.specs.Prelude.{ℕ, ◌+◌, ◌-◌, ◌*◌, ◌%◌, ◌≡◌, Bool, cond, ◌&&◌, ◌||◌, List, eqb, ltb, leb, length, get_or}
use Rattle.rules.specs.Bounded.{every}
use Rattle.rules.specs.Bytes.{byte}
use Rattle.rules.specs.Layout.{extent, code_section, instruction_rule, rises, sequence_rule, body_offset, body_length, method_count}

-- the bytes from a place on, by number
abbrev pub from : List ℕ → ℕ → ℕ → ℕ
from b at i = byte b (at + i)

-- a parent is lower than its class, and above the parent before it (M 2.4)
abbrev pub parents_rule : ℕ → List ℕ → Bool
parents_rule c xs = every (λ p. ltb p c) xs && rises xs

-- the same of parent i: it is lower than the class, and above the parent before it
unfoldable pub parent_rule : (ℕ → ℕ) → ℕ → ℕ → Bool
parent_rule f c i = ltb (f i) c && (eqb i 0 || ltb (f (i - 1)) (f i))

-- what `method_rule` says of the body alone
abbrev pub body_rule : List ℕ → ℕ → Bool
body_rule b m =
    sequence_rule (body_offset b) (body_length b) (method_count b) (extent b code_section) m
    && leb 2 (body_length b m)
    && leb (body_length b m) 128
    && eqb (body_length b m % 2) 0

-- `every_pair` of pair i
abbrev pub pair_rule : (ℕ → ℕ) → (ℕ → ℕ → Bool) → ℕ → Bool
pair_rule f p i = p (f (2 * i)) (f (2 * i + 1))

-- What the operands of a body stay below, by operation: argument places, classes and functions, 1 for a resend, and 0 for every other operation.
abbrev pub entries : ℕ
entries = 5

unfoldable pub entry_of : ℕ → ℕ
entry_of operation = cond (ltb operation 4) operation 4

pub record Limits (limits : List ℕ) : Type 0 where
  pub long : length limits ≡ entries
  pub resends : get_or limits 3 0 ≡ 1
  pub others : get_or limits 4 0 ≡ 0

-- `instruction_rule` with these limits
abbrev pub by_limits : List ℕ → ℕ → ℕ → Bool
by_limits limits = instruction_rule (get_or limits 0 0) (get_or limits 1 0) (get_or limits 2 0)
