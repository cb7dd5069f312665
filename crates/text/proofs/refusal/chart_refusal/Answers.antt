-- `text::refusal::chart_refusal` meets its contract: the line is composed in an array of its own, and copied where it fits.
-- Assumes nothing.
use native.Mathlib.Omega.{arith}
use mathlib.Core.Path.{sym, ◌∙◌}
use lib.Seq.{length-take-le}
use mathlib.Core.List.{[]}
use Rattle.rules.specs.Model.{model_of}
use Rattle.chart_line.specs.Charted.{chart_said}
use Rattle.lines.specs.Text.{refusal_line}
use Rattle.text.proofs.Composing.{copied_short, copied_written}
use Rattle.text.proofs.refusal.chart_refusal.Goals as goal

pub returns-then-text-n : goal.returns-then-text-n
returns-then-text-n c M =
    let a = c.compose_line-n.ensures M in
    copied_short (refusal_line M (chart_said c.args.answer)) c.compose_line-n.new.text c.compose_line-n.result (omega (arith, a.bound, a.same)) a.text c.args.text.now c.if-text-n.true

pub slice_bounds-own-end : goal.slice_bounds-own-end
slice_bounds-own-end c =
    let a = c.compose_line-n.ensures (model_of []) in
    omega (arith, a.bound, a.same)

pub slice_bounds-copy_from_slice-end-3 : goal.slice_bounds-copy_from_slice-end-3
slice_bounds-copy_from_slice-end-3 c =
    let a = c.compose_line-n.ensures (model_of []) in
    sym (length-take-le c.compose_line-n.result c.compose_line-n.new.text (omega (arith, a.bound, a.same)))

pub copy_from_slice-requires : goal.copy_from_slice-requires
copy_from_slice-requires c =
    let a = c.compose_line-n.ensures (model_of []) in
    length-take-le c.compose_line-n.result c.args.text.now c.if-text-n.false
    ∙ sym (length-take-le c.compose_line-n.result c.compose_line-n.new.text (omega (arith, a.bound, a.same)))

pub returns : goal.returns
returns c M =
    let a = c.compose_line-n.ensures M in
    copied_written (refusal_line M (chart_said c.args.answer)) c.compose_line-n.new.text c.compose_line-n.result (omega (arith, a.bound, a.same)) a.text c.args.text.now _ c.if-text-n.false cc
