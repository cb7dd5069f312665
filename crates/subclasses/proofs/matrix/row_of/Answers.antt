-- `subclasses::matrix::row_of` meets its contract: the row begins with the class itself, and each turn joins the row of one parent more.
-- Assumes nothing.
use Rattle.std.proofs.Common.{arith}
use Rattle.layout.proofs.Opened.{counts_of, wellformed_of}
use Rattle.subclasses.proofs.Entry.{classes_fit}
use Rattle.subclasses.proofs.Rows.{joined_none, joined_more, joined_all}
use Rattle.subclasses.proofs.matrix.row_of.Goals as goal

pub only-row-requires : goal.only-row-requires
only-row-requires c = omega (arith, classes_fit c.args.bundle.now.opened)

pub loop-i-init : goal.loop-i-init
loop-i-init c = joined_none _ _ _ c.only-row.ensures

pub offset_bounds-rows-p : goal.offset_bounds-rows-p
offset_bounds-rows-p c = omega (arith, classes_fit c.args.bundle.now.opened)

pub bounds-rows-p : goal.bounds-rows-p
bounds-rows-p c = omega (arith, classes_fit c.args.bundle.now.opened)

pub loop-i-preserved : goal.loop-i-preserved
loop-i-preserved c =
    let fit = classes_fit c.args.bundle.now.opened in
    let p = c.parent-p in
    joined_more _ _ c.args.rows.now c.loop-i.row _ c.loop-i.i p.result c.requires.rows_to c.loop-i.invariant (omega arith) p.ensures.0 p.ensures.1 (omega arith) c.union-row.ensures

pub returns : goal.returns
returns c =
    let counts = counts_of c.args.bundle.now.opened in
    joined_all _ _ c.loop-i.row c.loop-i.i (wellformed_of c.args.bundle.now.opened) (omega arith) c.loop-i.invariant (omega arith)
