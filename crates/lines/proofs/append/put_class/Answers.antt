-- `lines::append::put_class` meets its contract.
-- Assumes nothing.
use mathlib.Core.Path.{sym}
use mathlib.Core.List.{append-nil}
use Rattle.lines.specs.Text.{field, classes}
use Rattle.lines.proofs.Growing.{grown_as}
use Rattle.lines.proofs.append.put_class.Goals as goal

pub returns : goal.returns
unfolding field classes
returns c =
    grown_as (sym (append-nil _)) c.put_field.ensures
