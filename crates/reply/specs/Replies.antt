-- An answer as a reply: the number of what is refused (M 11), 0 where nothing is, and eight values, those that are not named being 0.
-- Assumes nothing.
use Rattle.std.specs.Prelude.{ℕ, List, [], ◌∷◌, ◌++◌, take, replicate, set}
use Rattle.rules.specs.Numbers as numbers
use Rattle.rules.specs.Layout.{Answer, gives, refuses}
use Rattle.rules.specs.Machine.{Ending, value, spent, deep, stopped, Outcome}
use Rattle.rules.specs.Bits.{bit}
use Rattle.rules.specs.Subclass.{Ancestry, same, heir, neither}
use Rattle.rules.specs.Calls.{Match}
use Rattle.rules.specs.Rough.{Rough, one, may_fail, several}
use Rattle.rules.specs.Accepted.{Accepted, ended, not_accepted, not_covered}
use Rattle.reply.specs.declared.Reply.{Reply}

-- the values that there are, then zeros, eight in all
abbrev pub eight : List ℕ → List ℕ
eight values = take 8 (values ++ replicate 8 0)

abbrev pub numbered : ℕ → List ℕ → Reply
numbered number values = record { number = number; values = eight values }

module _ {A : Type 0} where
  -- the first argument gives the values of what the call gives
  abbrev pub reply : (A → List ℕ) → Answer A → Reply
  reply given (gives x) = numbered 0 (given x)
  reply given (refuses number values) = numbered number values

  -- a call that gives no values: what it gives is in the row, or is that a rule holds
  abbrev pub nothing : A → List ℕ
  nothing x = []

-- opening: its four counts
abbrev pub counts : List ℕ → List ℕ
counts values = values

-- ancestry: 1 for the same class, 2 for an heir, 0 for neither
abbrev pub ancestry_values : Ancestry → List ℕ
ancestry_values same = 1 ∷ []
ancestry_values heir = 2 ∷ []
ancestry_values neither = 0 ∷ []

-- lookup: the method, and 1 where it is exact
abbrev pub match_values : Match → List ℕ
match_values x = x.method ∷ bit x.is_exact ∷ []

-- the line call: how many bytes the line has
abbrev pub line_length : ℕ → List ℕ
line_length n = n ∷ []

-- the rough call: 0 with the one method, 1 where the send may fail, 2 where several are found
abbrev pub rough_values : Rough → List ℕ
rough_values (one m) = 0 ∷ m ∷ []
rough_values may_fail = 1 ∷ []
rough_values several = 2 ∷ []

-- The ending of a run has a number where the run was stopped. Else its number is 0, and its first value tells a value from Spent and Deep.
abbrev pub ending_reply : Ending → Reply
ending_reply (value c) = numbered 0 (0 ∷ c ∷ [])
ending_reply spent = numbered 0 (1 ∷ [])
ending_reply deep = numbered 0 (2 ∷ [])
ending_reply (stopped number values) = numbered number values

-- the steps of a run are its last value
abbrev pub with_steps : Reply → ℕ → Reply
with_steps r steps = record { number = r.number; values = set r.values 7 steps }

abbrev pub outcome_reply : Outcome → Reply
outcome_reply o = with_steps (ending_reply o.ending) o.steps

abbrev pub run_reply : Answer Outcome → Reply
run_reply (gives o) = outcome_reply o
run_reply (refuses number values) = numbered number values

-- The run of an accepted bundle. A check that does not accept has its own number and values; a send that no signature covers is 18 with the value 1, to tell
-- it from a call that is wrong.
abbrev pub accepted_reply : Answer Accepted → Reply
accepted_reply (gives (ended o)) = outcome_reply o
accepted_reply (gives (not_accepted number values)) = numbered number values
accepted_reply (gives not_covered) = numbered numbers.absent (1 ∷ [])
accepted_reply (refuses number values) = numbered number values
