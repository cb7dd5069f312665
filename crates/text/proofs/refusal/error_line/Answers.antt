-- `text::refusal::error_line`: case by case.
-- Assumes nothing.
use native.Mathlib.Omega.{arith}
use mathlib.Core.Path.{◌≡◌}
use Rattle.std.specs.Prelude.{Err}
use Rattle.rules.specs.Model.{Model}
use Rattle.chart_line.specs.declared.line.ChartError.{ChartError}
use Rattle.chart_line.specs.Charted.{chart_said}
use Rattle.lines.specs.Text.{refusal_line}
use Rattle.lines.proofs.Growing.{grown_wider, grown_as}
use Rattle.text.proofs.refusal.error_line.Goals as goal

-- what an error that is told apart prints
told : (M : Model) {x y : ChartError} → x ≡ y → refusal_line M (chart_said (Err y)) ≡ refusal_line M (chart_said (Err x))
told M e = rw e

pub returns-in-Refused : goal.returns-in-Refused
unfolding refusal_line
returns-in-Refused c M = grown_as (told M c.in-Refused.is) (c.early_line.ensures M)

pub returns-in-NotBinary : goal.returns-in-NotBinary
unfolding refusal_line
returns-in-NotBinary c M = grown_as (told M c.in-NotBinary.is) (grown_wider 76 (omega arith) (c.number_line.ensures M))

pub returns-in-NoLine : goal.returns-in-NoLine
unfolding refusal_line
returns-in-NoLine c M = grown_as (told M c.in-NoLine.is) (grown_wider 76 (omega arith) (c.number_line-in-NoLine.ensures M))

pub returns-in-Short : goal.returns-in-Short
unfolding refusal_line
returns-in-Short c M = grown_as (told M c.in-Short.is) (grown_wider 76 (omega arith) (c.number_line-in-Short.ensures M))
