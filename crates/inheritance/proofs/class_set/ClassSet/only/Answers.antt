-- One word has one bit, the other none.
use Rattle.std.proofs.Common.{rules}
use Rattle.rules.proofs.Bits.{own_set}
use Rattle.inheritance.proofs.class_set.ClassSet.only.Goals as goal

pub returns : goal.returns
returns c k h = own_set c.args.a k (search rules) h
