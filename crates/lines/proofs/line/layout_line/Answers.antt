-- `lines::line::layout_line` meets its contract.
-- Assumes nothing.
use Rattle.std.proofs.Common.{[], arith}
use Rattle.rules.specs.Model.{model_of}
use Rattle.lines.specs.Text.{field, refused_line}
use Rattle.lines.proofs.Growing.{grown_both}
use Rattle.lines.proofs.line.layout_line.Goals as goal

pub put_word-requires-clause-at_in_bounds : goal.put_word-requires-clause-at_in_bounds
put_word-requires-clause-at_in_bounds c =
    let named = c.put_record-end.ensures (model_of []) in
    omega (arith, named.bound, named.same)

pub returns : goal.returns
unfolding field refused_line
returns c M =
    grown_both (grown_both (rw c.number.ensures at c.put_number-p.ensures) (c.put_record-end.ensures M)) c.put_word.ensures
