use Rattle.std.proofs.Common.{sym}
use Rattle.rules.specs.Coverage.{declared_hold}
use Rattle.subclasses.proofs.Asked.{declared_long, declared_present}
use Rattle.subclasses.proofs.prepared.PreparedBundle.declared_hold.Goals as goal

pub each_under-requires-clause-above_present : goal.each_under-requires-clause-above_present
each_under-requires-clause-above_present c =
    rw c.declared_classes.ensures.result_value (declared_present c.args.self.now.bundle.opened c.requires.of_arity)

pub each_under-requires-clause-as_long : goal.each_under-requires-clause-as_long
each_under-requires-clause-as_long c =
    rw c.declared_classes.ensures.result_value (sym (declared_long c.args.self.now.bundle.opened c.requires.of_arity))

pub returns : goal.returns
unfolding declared_hold
returns c = rw (← c.declared_classes.ensures.result_value) c.each_under.ensures
