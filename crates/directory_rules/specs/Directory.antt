-- What the search through the directory asks of one section.
-- Assumes nothing.
use Rattle.std.specs.Prelude.{ℕ, suc, Bool, List, eqb}
use Rattle.rules.specs.Layout.{offset, section_end}

-- each section begins where the one before it ends
abbrev pub next_rule : List ℕ → ℕ → Bool
next_rule b k = eqb (offset b (suc k)) (section_end b k)
