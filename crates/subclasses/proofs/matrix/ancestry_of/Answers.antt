-- `subclasses::matrix::ancestry_of` meets its contract: by the entry of the matrix, and by whether the numbers are the same.
-- Assumes nothing.
use Rattle.std.proofs.Common.{sym, ◌∙◌}
use borrow.Author.Tests.{eq-eqb, ne_eqb}
use Rattle.rules.specs.Subclass.{ancestry_by}
use Rattle.subclasses.specs.Matrix.{ancestry_at}
use Rattle.subclasses.specs.Ancestry.{ancestry_of}
use Rattle.subclasses.proofs.matrix.ancestry_of.Goals as goal

pub returns-then-not-under : goal.returns-then-not-under
unfolding ancestry_of ancestry_at ancestry_by
returns-then-not-under c = rw (sym c.under.ensures ∙ c.if-not-under.true)

pub returns-then-a-c : goal.returns-then-a-c
unfolding ancestry_of ancestry_at ancestry_by
returns-then-a-c c = rw (sym c.under.ensures ∙ c.if-not-under.false, eq-eqb c.args.a c.args.c c.if-a-c.true)

pub returns : goal.returns
unfolding ancestry_of ancestry_at ancestry_by
returns c = rw (sym c.under.ensures ∙ c.if-not-under.false, ne_eqb c.args.a c.args.c c.if-a-c.false)
