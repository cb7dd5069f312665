-- Each call of the search by itself has one place less to fill. The loop's invariant: what the whole search finds is what the search among the classes from one
-- on finds, the tried classes are in no tuple that stops it, and the places filled before are as they were.
-- Assumes nothing.
use Prim.Native.Nat.{◌-◌}
use lib.ListN.{length}
use Rattle.tuple_search.specs.Searches.{searched}
use Rattle.tuple_search.proofs.Trying.{Behind}
use Rattle.tuple_search.proofs.tables.Search.+complete.Given as goal

abbrev pub decreases-complete : goal.decreases-complete
decreases-complete l = l.unfilled

abbrev pub invariant-loop-class : goal.invariant-loop-class
invariant-loop-class l = Behind (searched l.self) l.self.question (length l.fn.chosen - l.unfilled) l.upper l.fn.chosen l.chosen l.tried.items l.class
