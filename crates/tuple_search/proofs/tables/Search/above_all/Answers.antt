-- The specialiser of a method is a class, and so one of the matrix.
-- Assumes nothing.
use native.Mathlib.Omega.{arith}
use Rattle.layout.proofs.Opened.{placed_of}
use Rattle.tuple_search.proofs.tables.Search.above_all.Goals as goal

pub row_at-requires-clause-k_lt_max_classes : goal.row_at-requires-clause-k_lt_max_classes
row_at-requires-clause-k_lt_max_classes c = omega (arith, (placed_of c.args.self.now.indexed.now.prepared.prepared.opened).classes_limit)
