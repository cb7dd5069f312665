-- The lead stays where the matrix has the class under its specialiser.
-- Assumes nothing.
use mathlib.Core.Path.{refl, sym, ap, ◌∙◌}
use Rattle.rules.specs.Subclass.{subclass}
use Rattle.tuple_search.specs.Searches.{searched}
use Rattle.tuple_search.proofs.tables.Search.lead_with.Goals as goal

pub returns-then-is_under : goal.returns-then-is_under
returns-then-is_under c =
    let M = searched c.args.self.now in
    rw c.in_ok-m.was (refl, sym (c.is_under.ensures ∙ ap (subclass M c.args.class) c.specialiser.ensures.0) ∙ c.if-is_under.true)
