-- The loop's invariant: the list has the concrete classes below k.
-- Assumes nothing.
use Rattle.std.proofs.Common.{◌≡◌}
use Rattle.rules.specs.Bounded.{upto, keep}
use Rattle.rules.specs.Model.{model_of}
use Rattle.rules.specs.Coverage.{concrete_class}
use Rattle.chart_line.proofs.concrete.concrete_classes.Given as goal

abbrev pub invariant-loop-k : goal.invariant-loop-k
invariant-loop-k l = l.classes.items ≡ keep (concrete_class (model_of l.bundle.bytes.now)) (upto l.k)
