use Rattle.std.proofs.Common.{arith, ◌∙◌}
use Rattle.subclasses.proofs.Asked.{ancestry_entry}
use Rattle.subclasses.proofs.Entry.{classes_fit}
use Rattle.subclasses.proofs.prepared.PreparedBundle.ancestry.Goals as goal

pub ancestry_of-requires-clause-a_lt_max_classes : goal.ancestry_of-requires-clause-a_lt_max_classes
ancestry_of-requires-clause-a_lt_max_classes c = omega (arith, classes_fit c.args.self.now.bundle.opened)

pub ancestry_of-requires-clause-c_lt_max_classes : goal.ancestry_of-requires-clause-c_lt_max_classes
ancestry_of-requires-clause-c_lt_max_classes c = omega (arith, classes_fit c.args.self.now.bundle.opened)

pub returns : goal.returns
returns c = c.ancestry_of.ensures ∙ ancestry_entry c.args.self.now.prepared c.args.a c.args.c c.requires.a_lt_classes c.requires.c_lt_classes
