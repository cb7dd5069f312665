use Rattle.std.proofs.Common.{◌∙◌}
use Rattle.subclasses.proofs.Asked.{comparable, entries_under}
use Rattle.subclasses.proofs.prepared.PreparedBundle.each_under.Goals as goal

pub each_under-requires : goal.each_under-requires
each_under-requires c = comparable c.args.self.now.prepared c.requires.classes_present c.requires.above_present c.requires.as_long

pub returns : goal.returns
returns c = c.each_under.ensures ∙ entries_under c.args.self.now.prepared _ _ c.requires.classes_present c.requires.above_present
