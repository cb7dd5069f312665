-- 1 for the same class and for an heir, and else what stood there.
use Rattle.rules.specs.Subclass.{is_under}
use Rattle.subclasses.specs.declared.matrix.Ancestry.TheVariants.{Same, Heir, Neither}
use Rattle.subclasses.specs.Ancestry.{ancestry_of}
use Rattle.subclasses.proofs.Told.{entry_by}
use Rattle.typing.proofs.row.join_byte.Goals as goal

pub returns-in-Same : goal.returns-in-Same
unfolding is_under ancestry_of
returns-in-Same c = rw (entry_by _ _ _ _ c.ancestry_of.ensures Same c.in-Same.is)

pub returns-in-Heir : goal.returns-in-Heir
unfolding is_under ancestry_of
returns-in-Heir c = rw (entry_by _ _ _ _ c.ancestry_of.ensures Heir c.in-Heir.is)

pub returns-in-Neither : goal.returns-in-Neither
unfolding is_under ancestry_of
returns-in-Neither c = rw (entry_by _ _ _ _ c.ancestry_of.ensures Neither c.in-Neither.is)
