-- Whether the class is concrete is asked first.
-- Assumes nothing.
use native.Mathlib.Omega.{arith}
use mathlib.Core.Path.{sym, ◌∙◌}
use Rattle.layout.proofs.Opened.{counts_of}
use Rattle.tuple_search.proofs.Narrowing.{abstract_class, concrete_class_lem}
use Rattle.tuple_search.proofs.search.is_candidate.Goals as goal

pub returns-then-is_concrete : goal.returns-then-is_concrete
returns-then-is_concrete c =
    let counts = counts_of c.args.prepared.now.prepared.opened in
    c.is_under.ensures ∙ concrete_class_lem _ _ _ (omega arith) (sym c.is_concrete.ensures ∙ c.if-is_concrete.true)

pub returns-else-is_concrete : goal.returns-else-is_concrete
returns-else-is_concrete c = c.if-is_concrete.false ∙ abstract_class _ _ _ (sym c.is_concrete.ensures ∙ c.if-is_concrete.false)
