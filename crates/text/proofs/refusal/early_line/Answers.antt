-- `text::refusal::early_line`: case by case.
-- Assumes nothing.
use native.Mathlib.Omega.{arith}
use mathlib.Core.Path.{◌≡◌}
use Rattle.rules.specs.Model.{Model}
use Rattle.answers.specs.declared.refusal.Refusal.{Refusal}
use Rattle.answers.specs.Refusals.{refusal_said}
use Rattle.lines.specs.Text.{refusal_line}
use Rattle.lines.proofs.Growing.{grown_wider, grown_as}
use Rattle.text.proofs.refusal.early_line.Goals as goal

-- what a refusal that is told apart prints
told : (M : Model) {x y : Refusal} → x ≡ y → refusal_line {A = Unit {0}} M (refusal_said y) ≡ refusal_line {A = Unit {0}} M (refusal_said x)
told M e = rw e

pub returns-in-Layout : goal.returns-in-Layout
unfolding refusal_line
returns-in-Layout c M = grown_as (told M c.in-Layout.is) (c.layout_line.ensures M)

pub returns-in-Scratch : goal.returns-in-Scratch
unfolding refusal_line
returns-in-Scratch c M = grown_as (told M c.in-Scratch.is) (grown_wider 76 (omega arith) (c.number_line.ensures M))

pub returns-in-Row : goal.returns-in-Row
unfolding refusal_line
returns-in-Row c M = grown_as (told M c.in-Row.is) (grown_wider 76 (omega arith) (c.number_line-in-Row.ensures M))

pub returns-in-Absent : goal.returns-in-Absent
unfolding refusal_line
returns-in-Absent c M = grown_as (told M c.in-Absent.is) (grown_wider 76 (omega arith) (c.number_line-in-Absent.ensures M))
