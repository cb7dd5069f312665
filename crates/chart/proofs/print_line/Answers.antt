-- What is written lies within the buffer.
use Rattle.std.proofs.Common.{[], sym}
use lib.Seq.{length-take-le}
use Rattle.rules.specs.Model.{model_of}
use Rattle.chart_line.specs.Charted.{chart_said}
use Rattle.lines.specs.Text.{refusal_line}
use Rattle.text.proofs.Composing.{piece_within}
use Rattle.chart.proofs.Within.{line_within}
use Rattle.chart.proofs.print_line.Goals as goal

pub slice_bounds-text-end : goal.slice_bounds-text-end
slice_bounds-text-end g c =
    line_within c.args.bundle.now _ _ c.args.function c.args.line _ c.in-Ok.is c.chart-answer.ensures.result_value c.chart-answer.ensures.text_after

pub slice_bounds-write_all-end : goal.slice_bounds-write_all-end
slice_bounds-write_all-end g c =
    sym (length-take-le _ _ (line_within c.args.bundle.now _ _ c.args.function c.args.line _ c.in-Ok.is c.chart-answer.ensures.result_value c.chart-answer.ensures.text_after))

pub slice_bounds-text-end-in-Ok-chart_refusal : goal.slice_bounds-text-end-in-Ok-chart_refusal
slice_bounds-text-end-in-Ok-chart_refusal g c =
    let M = model_of [] in
    piece_within (refusal_line M (chart_said c.chart-answer.result)) c.chart-answer.new.text c.chart_refusal.new.text c.in-Ok-chart_refusal.is (c.chart_refusal.ensures M)

pub slice_bounds-write_all-end-in-Ok-chart_refusal : goal.slice_bounds-write_all-end-in-Ok-chart_refusal
slice_bounds-write_all-end-in-Ok-chart_refusal g c =
    let M = model_of [] in
    sym (length-take-le _ _ (piece_within (refusal_line M (chart_said c.chart-answer.result)) c.chart-answer.new.text c.chart_refusal.new.text c.in-Ok-chart_refusal.is (c.chart_refusal.ensures M)))
