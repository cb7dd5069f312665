-- An opening that answers with tables has opened.
-- Assumes nothing.
use Prim.Native.Nat.{ℕ}
use mathlib.Core.Path.{sym}
use mathlib.Core.List.{List}
use Rattle.layout.specs.Opened.{Opened}
use Rattle.layout.specs.declared.bundle.Bundle.{Bundle}
use Rattle.layout.proofs.Opened.{opened_with}
use Rattle.std.specs.Prelude.{Ok}
use Rattle.answers.specs.Opening.{Opens}

pub opened_of : {b : List ℕ} {t : Bundle} → Opens b (Ok t) → Opened b t
opened_of o = opened_with _ (sym o.answer) o.tables
