-- `lines::line::put_record` meets its contract: case by case.
-- Assumes nothing.
use Rattle.std.proofs.Common.{inl, inr}
use Rattle.lines.specs.Text.{field, finding}
use Rattle.lines.proofs.Growing.{grown_none}
use Rattle.lines.proofs.line.put_record.Goals as goal

pub returns-in-Record : goal.returns-in-Record
unfolding finding field
returns-in-Record c M = rw c.in-Record.is c.put_field.ensures

pub returns-in-Length : goal.returns-in-Length
unfolding finding
returns-in-Length c M =
    let none = grown_none 32 c.args.text.now c.args.at in
    elim c.in-Length.is [ inl e ↦ rw e none | inr r ↦ elim r [ inl e ↦ rw e none | inr e ↦ rw e none ] ]
