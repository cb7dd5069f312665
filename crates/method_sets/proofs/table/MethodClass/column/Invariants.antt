-- The loop's invariant: the first i classes are those of the first i methods in the order.
-- Assumes nothing.
use Rattle.std.proofs.Common.{ℕ, ◌<◌, ◌≡◌, length, get_or}
use Rattle.rules.specs.Model.{model_of}
use Rattle.method_sets.specs.Classes.{is_declared}
use Rattle.method_sets.proofs.Rows.{OfMethod}
use Rattle.method_sets.proofs.table.MethodClass.column.Given as goal

abbrev pub invariant-loop-i : goal.invariant-loop-i
invariant-loop-i l = record {
  long : length l.classes.items ≡ l.i;
  told : (n : ℕ) → n < l.i → OfMethod (is_declared l.self) (model_of l.bundle.bytes.now) l.order l.place n (get_or l.classes.items n 0);
}
