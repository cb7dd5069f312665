-- `curiumtoad::chart::chart`: refused before its own rules with the lent bytes as they were, or the answer over the opened bundle.
-- Assumes nothing.
use mathlib.Core.Path.{refl}
use Rattle.std.proofs.lemmas.Result.{err_from_is_err_and}
use Rattle.rules.specs.Chart.{chart_call, line_on, buffer_after}
use Rattle.preparation.proofs.Called.{is_refused, is_ready}
use Rattle.curiumtoad.proofs.chart.chart.Goals as goal

pub returns-in_err-bundle : goal.returns-in_err-bundle
unfolding chart_call buffer_after line_on
returns-in_err-bundle c =
    let p = err_from_is_err_and c.from_residual.result c.from_residual.ensures.1 in
    let h = c.in_err-bundle.ensures.begins in
    rw (p.1, p.2, is_refused h) (record { result_value = refl; scratch_after = h.filled; text_after = refl })

pub returns : goal.returns
unfolding chart_call buffer_after
returns c =
    let h = c.in_ok-bundle.ensures.begins in
    rw (is_ready h) (record { result_value = c.chart_in.ensures.result_value; scratch_after = h.filled; text_after = c.chart_in.ensures.line_after })
