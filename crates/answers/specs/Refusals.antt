-- What a call that is refused before the rules of its own says.
-- Assumes nothing.
use Rattle.std.specs.Prelude.{ℕ, List, []}
use Rattle.rules.specs.Numbers as numbers
use Rattle.rules.specs.Layout.{Answer, refuses}
use Rattle.answers.specs.declared.refusal.Refusal as refusal-type
use Rattle.answers.specs.declared.refusal.Refusal.TheVariants.{Layout, Scratch, Row, Absent}
use Rattle.answers.specs.Opening.{layout_number, layout_values}

abbrev pub refusal_number : refusal-type.Refusal → ℕ
refusal_number (Layout f) = layout_number f
refusal_number Scratch = numbers.short_scratch
refusal_number Row = numbers.short_buffer
refusal_number Absent = numbers.absent

abbrev pub refusal_values : refusal-type.Refusal → List ℕ
refusal_values (Layout f) = layout_values f
refusal_values Scratch = []
refusal_values Row = []
refusal_values Absent = []

abbrev pub refusal_said : {A : Type 0} → refusal-type.Refusal → Answer A
refusal_said r = refuses (refusal_number r) (refusal_values r)
