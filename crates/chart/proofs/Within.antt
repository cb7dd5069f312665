-- A line that is written lies within its buffer.
-- Assumes nothing.
use Prim.Native.Nat.{ℕ, ◌≤◌}
use native.Mathlib.Omega.{arith}
use mathlib.Core.Path.{◌≡◌, sym, ap, ◌∙◌}
use mathlib.Core.List.{List}
use lib.ListN.{length, drop, length-append}
use Rattle.rules.specs.Layout.{Answer, gives, refuses}
use Rattle.rules.specs.Chart.{chart_call, line_on, buffer_after}
use Rattle.std.specs.Prelude.{Result, Ok}
use Rattle.chart_line.specs.declared.line.ChartError.{ChartError}
use Rattle.chart_line.specs.Charted.{chart_said, length_said}

-- what an answer gives, 0 where it refuses
given : Answer ℕ → ℕ
given (gives n) = n
given (refuses number values) = 0

on_within : (a : Answer (List ℕ)) (old : List ℕ) (n : ℕ) → gives n ≡ length_said a → n ≤ length (line_on a old)
unfolding given line_on
on_within (gives line) old n e = omega (arith, ap given e, length-append line (drop (length line) old))
on_within (refuses number values) old n e = omega (arith, ap given e)

pub line_within : (b old : List ℕ) (s f k n : ℕ) {r : Result ℕ ChartError} {new : List ℕ} → r ≡ Ok n → chart_said r ≡ length_said (chart_call b s (length old) f k) → new ≡ buffer_after b s old f k
    → n ≤ length new
unfolding buffer_after
line_within b old s f k n e said after = rw after (on_within (chart_call b s (length old) f k) old n (sym (ap chart_said e) ∙ said))
