-- The tried classes are the bundle's, and so of the tables.
-- Assumes nothing.
use Prim.Native.Nat.{◌-◌}
use native.Mathlib.Omega.{arith}
use Rattle.layout.proofs.Opened.{placed_of, counts_of}
use Rattle.subclasses.proofs.Asked.{class_below}
use Rattle.tuple_search.proofs.alike.tried_alike.Goals as goal

pub alike-requires-clause-a_lt_max_classes : goal.alike-requires-clause-a_lt_max_classes
alike-requires-clause-a_lt_max_classes c =
    let o = c.args.search.now.indexed.now.prepared.prepared.opened in
    let counts = counts_of o in
    omega (arith, c.from.ensures, class_below _ _ c.requires.tried_present (c.loop-i.i - 1) (omega arith), (placed_of o).classes_limit)
