-- A class that is present is asked, and an abstract one breaks what is asked of all.
-- Assumes nothing.
use Rattle.std.proofs.Common.{arith, sym}
use Rattle.layout.proofs.Opened.{counts_of}
use Rattle.subclasses.proofs.Asked.{class_below}
use Rattle.sends.proofs.Sent.{concrete_decides}
use Rattle.sends.proofs.send.all_concrete.Goals as goal

pub is_concrete-requires : goal.is_concrete-requires
is_concrete-requires c =
    omega (arith, class_below _ _ c.requires c.loop-class.class-index (omega arith), (counts_of c.args.bundle.now.opened).classes)

pub returns-then-not-is_concrete : goal.returns-then-not-is_concrete
returns-then-not-is_concrete c = sym ((concrete_decides _ _ c.requires).breaks c.loop-class.class-index (omega arith) (cc))

pub returns : goal.returns
returns c = sym ((concrete_decides _ _ c.requires).holds (λ k h. c.loop-class.invariant k (omega arith)))
