-- What an instruction comes to, said otherwise.
-- Assumes nothing.
use Rattle.std.specs.Prelude.{ℕ, Result}
use mathlib.Core.Path.{◌≡◌, ◌∙◌}
use mathlib.Core.List.{List}
use Rattle.rules.specs.Model.{Model}
use Rattle.rules.specs.Machine.{Turn}
use Rattle.machine.specs.Endings.{StepsTo}
use Rattle.machine.specs.declared.ending.Ending.{Ending}

pub steps_as : {M : Model} {fs vs : List ℕ} {r : Result ℕ Ending} {t u : Turn} → StepsTo M fs vs r t → t ≡ u → StepsTo M fs vs r u
steps_as s e = record { turned = s.turned ∙ e; holding = s.holding }
