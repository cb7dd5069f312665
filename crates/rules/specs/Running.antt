-- The running end. Opening goes through the records of a rule once, in their order, and carries from each record to the next where the lists, or the bodies, of
-- the records before it end. Here is said which records it comes to, and with which end, without a sum; and that the end is the sum.
-- Assumes nothing.
use Rattle.std.specs.Prelude.{ℕ, ◌+◌, ◌≤◌, ◌<◌, ◌≡◌, Bool, true, List}
use Rattle.rules.specs.Bounded.{sum}
use Rattle.rules.specs.Layout.{in_sequence, sequence_rule, class_rule, method_rule, class_count, method_count, list_offset, list_length, body_offset, body_length, extent, parent_section, code_section}

module _ (rule : ℕ → Bool) (size : ℕ → ℕ) (n : ℕ) where
  -- Record k of n is reached with this running end: the first with 0, and past a record that keeps the rule the next, with the end advanced by the size of
  -- the one that is passed. Where k is n, all are passed.
  pub data Reached : ℕ → ℕ → Type 0 where
    first : Reached 0 0
    next : {k end : ℕ} → Reached k end → k < n → rule k ≡ true → Reached (k + 1) (end + size k)

-- Of records with a list or body each, in a section of `end` bytes. The running end at a record that is reached is the sum of the sizes of all lower records, as
-- whole numbers; so the record is judged by it as by the sum. Reached is every record up to and with the first that breaks the rule.
pub record EndsAreSums (rule : ℕ → Bool) (start size : ℕ → ℕ) (n end : ℕ) : Type 0 where
  pub is_sum : (k before : ℕ) → Reached rule size n k before → before ≡ sum size k
  pub judged_alike : (k before : ℕ) → Reached rule size n k before → in_sequence (start k) (size k) before n end k ≡ sequence_rule start size n end k
  pub all_reached : (k : ℕ) → k ≤ n → ((j : ℕ) → j < k → rule j ≡ true) → Reached rule size n k (sum size k)

-- so it is of a bundle's parent lists and of its bodies, whatever its bytes are
pub record RunningEnds (b : List ℕ) : Type 0 where
  pub lists : EndsAreSums (class_rule b) (list_offset b) (list_length b) (class_count b) (extent b parent_section)
  pub bodies : EndsAreSums (method_rule b) (body_offset b) (body_length b) (method_count b) (extent b code_section)
