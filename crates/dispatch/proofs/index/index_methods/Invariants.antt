-- The loop's invariant: the methods from m on are in the index, and the bundle is within its limits, so that each entry has its place.
use Rattle.std.proofs.Common.{◌≤◌}
use Rattle.rules.specs.Layout.{max_functions, max_methods}
use Rattle.layout.specs.Bundles.{model}
use Rattle.dispatch.specs.Index.{IndexedFrom}
use Rattle.dispatch.proofs.index.index_methods.Given as goal

abbrev pub invariant-loop-m : goal.invariant-loop-m
invariant-loop-m l =
    let t = l.bundle.tables in
    record { functions : t.functions ≤ max_functions; methods : t.methods ≤ max_methods; indexed : IndexedFrom (model l.bundle) l.first l.next l.m }
