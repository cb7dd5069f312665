-- The loop's invariant: at the places before, the methods above the specialiser of m are all of the set.
-- Assumes nothing.
use Rattle.tuple_search.specs.Searches.{searched}
use Rattle.method_sets.specs.Sets.{AboveAll}
use Rattle.tuple_search.proofs.tables.Search.above_all.Given as goal

abbrev pub invariant-loop-place : goal.invariant-loop-place
invariant-loop-place l = AboveAll (searched l.self) l.self.admits.now l.set l.place l.m
