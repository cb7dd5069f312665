-- The loop's invariant: m is at least as specific as each method before o, or it is that one.
use Rattle.std.proofs.Common.{ℕ, ◌≡◌, ◌<◌, ◌||◌, true, get_or, eqb}
use Rattle.layout.specs.Bundles.{model}
use Rattle.rules.specs.Lookup.{as_specific}
use Rattle.dispatch.proofs.select.Candidates.leads.Given as goal

abbrev pub invariant-loop-o : goal.invariant-loop-o
invariant-loop-o l = (k : ℕ) → k < l.o-index → (eqb (get_or l.self.list.now k 0) l.m || as_specific (model l.self.prepared.now.bundle) l.m (get_or l.self.list.now k 0)) ≡ true
