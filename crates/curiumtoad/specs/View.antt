-- What the answer of the body view says.
-- Assumes nothing.
use Rattle.std.specs.Prelude.{ℕ, List, Result, Ok, Err}
use Rattle.std.specs.Borrow.{Bor}
use Rattle.rules.specs.Layout.{Answer, gives}
use Rattle.answers.specs.declared.refusal.Refusal.{Refusal}
use Rattle.answers.specs.Refusals.{refusal_said}

abbrev pub view_said : Result (Bor (List ℕ)) Refusal → Answer (List ℕ)
view_said (Ok part) = gives part.now
view_said (Err r) = refusal_said r
