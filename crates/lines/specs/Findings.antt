-- What the functions that write the line of a finding ask and promise.
-- Assumes nothing.
use Rattle.std.specs.Prelude.{ℕ, ◌<◌, List, Result, Ok, Err}
use Rattle.rules.specs.Model.{Model}
use Rattle.answers.specs.declared.opening.LayoutFinding.{LayoutFinding}
use Rattle.answers.specs.declared.finding.Finding as finding-type
use Rattle.answers.specs.declared.finding.Finding.TheVariants as finding
use Rattle.answers.specs.Opening.{layout_number, layout_values}
use Rattle.lines.specs.Text as text

-- a send that is named is one of a function that is there
abbrev pub NamedBy : ℕ → finding-type.Finding → Type 0
NamedBy functions (finding.Layout f) = Unit {0}
NamedBy functions finding.Scratch = Unit {0}
NamedBy functions (finding.Coverage c) = c.send.function < functions
NamedBy functions (finding.Body x) = Unit {0}

abbrev pub Named : ℕ → Result (Unit {0}) finding-type.Finding → Type 0
Named functions (Ok x) = Unit {0}
Named functions (Err f) = NamedBy functions f

abbrev pub refused_with : finding-type.Finding → Result (Unit {0}) finding-type.Finding
refused_with f = Err f

-- the line of a layout refusal, which is the same in every model
abbrev pub layout_line : Model → LayoutFinding → List ℕ
layout_line M f = text.refused_line M (layout_number f) (layout_values f)
