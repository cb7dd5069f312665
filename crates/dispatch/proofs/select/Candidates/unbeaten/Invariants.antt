-- The loop's invariant: no method before o, other than m, is at least as specific as m.
use Rattle.std.proofs.Common.{ℕ, ◌≡◌, ◌<◌, ◌||◌, true, not, get_or, eqb}
use Rattle.layout.specs.Bundles.{model}
use Rattle.rules.specs.Lookup.{as_specific}
use Rattle.dispatch.proofs.select.Candidates.unbeaten.Given as goal

abbrev pub invariant-loop-o : goal.invariant-loop-o
invariant-loop-o l = (k : ℕ) → k < l.o-index → (eqb (get_or l.self.list.now k 0) l.m || not (as_specific (model l.self.prepared.now.bundle) (get_or l.self.list.now k 0) l.m)) ≡ true
