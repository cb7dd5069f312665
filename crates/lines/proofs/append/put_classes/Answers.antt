-- `lines::append::put_classes` meets its contract.
-- Assumes nothing.
use Rattle.std.proofs.Common.{◌+◌, ◌*◌, arith}
use Rattle.lines.specs.Text.{classes}
use Rattle.lines.proofs.Growing.{grown_none, grown_both, grown_wider, grown_as, classes_more}
use Rattle.lines.proofs.append.put_classes.Goals as goal

pub loop-class-init : goal.loop-class-init
unfolding classes
loop-class-init c = grown_none 0 c.args.text.now c.args.at

pub loop-class-preserved : goal.loop-class-preserved
loop-class-preserved c =
    let i = c.loop-class.class-index in
    grown_as (classes_more c.args.args.now i (omega arith))
    (grown_wider (32 * (i + 1)) (omega arith) (grown_both c.loop-class.invariant c.put_class-end.ensures))
