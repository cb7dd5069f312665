-- `curiumtoad::send_type::send_type`: refused before its own rules with the lent bytes as they were, or the answer over the opened bundle.
-- Assumes nothing.
use mathlib.Core.Path.{refl}
use Rattle.std.proofs.lemmas.Result.{err_from_is_err_and}
use Rattle.rules.specs.Calls.{send_type_call, row_on, row_after}
use Rattle.preparation.proofs.Called.{is_refused, is_ready}
use Rattle.curiumtoad.proofs.send_type.send_type.Goals as goal

pub returns-in_err-bundle : goal.returns-in_err-bundle
unfolding send_type_call row_after row_on
returns-in_err-bundle c =
    let p = err_from_is_err_and c.from_residual.result c.from_residual.ensures.1 in
    let h = c.in_err-bundle.ensures.begins in
    rw (p.1, p.2, is_refused h) (record { result_value = refl; scratch_after = h.filled; row_after = refl })

pub returns : goal.returns
unfolding send_type_call row_after
returns c =
    let h = c.in_ok-bundle.ensures.begins in
    let said = rw h.bytes at c.send_type_in.ensures in
    rw (is_ready h, h.bytes) (record { result_value = said.result_value; scratch_after = h.filled; row_after = said.row_after })
