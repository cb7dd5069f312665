-- What the matrix answers, in the words of the rules.
-- Assumes nothing.
use Rattle.rules.specs.Subclass as rules
use Rattle.subclasses.specs.declared.matrix.Ancestry.{Ancestry}
use Rattle.subclasses.specs.declared.matrix.Ancestry.TheVariants.{Same, Heir, Neither}

unfoldable pub ancestry_of : Ancestry → rules.Ancestry
ancestry_of Same = rules.same
ancestry_of Heir = rules.heir
ancestry_of Neither = rules.neither
