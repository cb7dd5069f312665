-- The loop's invariant: the sets of the first places are written, and the rest is 0.
-- Assumes nothing.
use Rattle.rules.specs.Model.{model_of}
use Rattle.method_sets.specs.Classes.{is_declared}
use Rattle.method_sets.specs.Sets.{TabledTo}
use Rattle.method_sets.proofs.table.MethodClass.fill.Given as goal

abbrev pub invariant-loop-place : goal.invariant-loop-place
invariant-loop-place l = TabledTo (is_declared l.self) (model_of l.prepared.bundle.bytes.now) l.order l.table l.place
