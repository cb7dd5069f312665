-- `subclasses::matrix::fill` meets its contract: each turn writes the two words of one row more.
-- Assumes nothing.
use Rattle.std.proofs.Common.{◌≡◌, refl, sym, ap, ◌∙◌, length, arith}
use Rattle.rules.specs.Model.{model_of}
use Rattle.rules.proofs.Overwrite.{overwrite_none, overwrite_length}
use Rattle.layout.proofs.Opened.{counts_of}
use Rattle.subclasses.specs.Matrix.{RowsTo}
use Rattle.subclasses.proofs.Entry.{filled_whole}
use Rattle.subclasses.proofs.Rows.{row_written}
use Rattle.subclasses.proofs.matrix.fill.Goals as goal

pub loop-a-init : goal.loop-a-init
loop-a-init c = record { long = refl; written = sym (overwrite_none _ _) }

pub loop-a-preserved : goal.loop-a-preserved
loop-a-preserved c =
    let M = model_of c.args.bundle.now.bytes.now in
    let l = c.loop-a in
    let rows : RowsTo M M.classes c.rows_of-rows.result = rw (counts_of c.args.bundle.now.opened).classes at c.rows_of-rows.ensures in
    let written =
    row_written M c.rows_of-rows.result rows l.a (omega arith) c.args.scratch.now l.scratch c.put_word.new.part c.put_word-in-loop-a.new.part l.invariant.written c.put_word.ensures
    c.put_word-in-loop-a.ensures in
    record { long = ap length written ∙ overwrite_length _ _ _ (omega arith); written = written }

pub returns-clause-filled : goal.returns-clause-filled
returns-clause-filled c =
    let all : c.loop-a.a ≡ 128 = omega arith in
    let written = rw all at c.loop-a.invariant.written in
    rw written (filled_whole _ _ (omega arith))
