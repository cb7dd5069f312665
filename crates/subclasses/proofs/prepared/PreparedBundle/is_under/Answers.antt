use Rattle.std.proofs.Common.{arith, ◌∙◌}
use Rattle.subclasses.proofs.Asked.{class_entry}
use Rattle.subclasses.proofs.Entry.{classes_fit}
use Rattle.subclasses.proofs.prepared.PreparedBundle.is_under.Goals as goal

pub under-requires-clause-a_lt_max_classes : goal.under-requires-clause-a_lt_max_classes
under-requires-clause-a_lt_max_classes c = omega (arith, classes_fit c.args.self.now.bundle.opened)

pub under-requires-clause-c_lt_max_classes : goal.under-requires-clause-c_lt_max_classes
under-requires-clause-c_lt_max_classes c = omega (arith, classes_fit c.args.self.now.bundle.opened)

pub returns : goal.returns
returns c = c.under.ensures ∙ class_entry c.args.self.now.prepared c.args.a c.args.c c.requires.a_lt_classes c.requires.c_lt_classes
