-- `chart_line::line::put_line` meets its contract: the heading, the columns and the newline are written one behind the other.
-- Assumes nothing.
use Rattle.std.proofs.Common.{length, arith, ap, ◌∙◌}
use Prim.Native.Nat.{ℕ}
use Rattle.rules.specs.Model.{model_of}
use Rattle.rules.proofs.Chart.{heading_length}
use Rattle.layout.proofs.Opened.{wellformed_of}
use Rattle.chart_line.proofs.Charted.{few_classes, enough_room}
use Rattle.chart_line.proofs.Lines.{line_made}
use Rattle.chart_line.proofs.line.put_line.Goals as goal

pub put-requires : goal.put-requires
put-requires c =
    let M = model_of c.args.prepared.now.bundle.bytes.now in
    let four = ap (length {A = ℕ}) (c.heading.ensures M c.requires.charted.concrete) ∙ heading_length M c.args.k in
    omega (arith, four, enough_room c.requires.charted c.requires.bundle_in_bounds)

pub overflow_mul-classes : goal.overflow_mul-classes
overflow_mul-classes c = omega (arith, few_classes (wellformed_of c.args.prepared.now.bundle.opened) c.requires.charted)

pub overflow_add-classes : goal.overflow_add-classes
overflow_add-classes c = omega (arith, few_classes (wellformed_of c.args.prepared.now.bundle.opened) c.requires.charted)

pub put-requires-2 : goal.put-requires-2
put-requires-2 c = omega (arith, enough_room c.requires.charted c.requires.bundle_in_bounds)

pub returns : goal.returns
returns c =
    let a = c.args in
    let M = model_of a.prepared.now.bundle.bytes.now in
    line_made M a.f a.k a.line.now a.classes.now c.requires.charted.concrete c.heading.result c.put.new.line c.put_columns.new.line c.put-2.new.line
    (c.heading.ensures M c.requires.charted.concrete) c.put.ensures (rw c.new-indexed.ensures at c.put_columns.ensures) c.put-2.ensures
