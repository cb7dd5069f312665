-- Each row is put behind those of the classes before.
use native.Mathlib.Omega.{arith}
use lib.Seq.{take_all}
use Rattle.layout.proofs.Opened.{counts_of}
use Rattle.subclasses.proofs.Asked.{class_below}
use Rattle.typing.proofs.Classes.{class_rows_none, class_rows_more, class_rows_before}
use Rattle.typing.proofs.row.class_rows.Goals as goal

pub loop-class-init : goal.loop-class-init
loop-class-init c = rw c.new-rows.ensures (class_rows_none _ c.args.args.now)

pub class_row-requires : goal.class_row-requires
class_row-requires c =
    let counts = counts_of c.args.prepared.now.bundle.opened in
    let below = class_below _ _ c.requires.args_value c.loop-class.class-index (omega arith) in
    omega (arith, c.from.ensures)

pub push-requires : goal.push-requires
push-requires c =
    let before = class_rows_before _ c.args.args.now c.loop-class.rows.items c.loop-class.class-index (omega arith) c.loop-class.invariant in
    (omega arith, omega arith)

pub loop-class-preserved : goal.loop-class-preserved
loop-class-preserved c =
    rw c.push.ensures.items
    (class_rows_more _ c.args.args.now c.loop-class.rows.items c.loop-class.class-index c.from.result c.class_row.result (omega arith) c.from.ensures
    c.class_row.ensures c.loop-class.invariant)

pub returns : goal.returns
returns c =
    let n = c.loop-class.class-index in
    rw (take_all n c.args.args.now (omega arith)) at c.loop-class.invariant
