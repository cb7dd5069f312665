-- The chart of a function, and what the line call says.
-- Assumes nothing.
use Rattle.std.specs.Prelude.{ℕ, ◌≤◌, ◌<◌, ◌≡◌, List, [], length, Result, Ok, Err}
use Rattle.rules.specs.Numbers as numbers
use Rattle.rules.specs.Layout.{Answer, gives, refuses}
use Rattle.rules.specs.Model.{Model}
use Rattle.rules.specs.Chart.{concretes}
use Rattle.answers.specs.Refusals.{refusal_said}
use Rattle.chart_line.specs.declared.line.ChartError.{ChartError}
use Rattle.chart_line.specs.declared.line.ChartError.TheVariants.{Refused, NotBinary, NoLine, Short}

-- function f is there and has a chart, over these classes, with a line k
pub record Charted (M : Model) (f : ℕ) (classes : List ℕ) (k : ℕ) : Type 0 where
  pub function : f < M.functions
  pub binary : M.arity f ≡ 2
  pub concrete : classes ≡ concretes M
  pub line : k ≤ length classes

abbrev pub chart_said : Result ℕ ChartError → Answer ℕ
chart_said (Ok n) = gives n
chart_said (Err (Refused r)) = refusal_said r
chart_said (Err NotBinary) = refuses numbers.not_binary []
chart_said (Err NoLine) = refuses numbers.no_line []
chart_said (Err Short) = refuses numbers.short_line []

-- the line itself is in the buffer: the answer says how long it is
abbrev pub length_said : Answer (List ℕ) → Answer ℕ
length_said (gives line) = gives (length line)
length_said (refuses number values) = refuses number values
