-- The loop's invariant: none of the methods before m leads the list.
use Rattle.std.proofs.Common.{ℕ, ◌≡◌, ◌<◌, false, get_or}
use Rattle.layout.specs.Bundles.{model}
use Rattle.rules.specs.Lookup.{leads}
use Rattle.dispatch.proofs.select.Candidates.select.Given as goal

abbrev pub invariant-loop-m : goal.invariant-loop-m
invariant-loop-m l = (k : ℕ) → k < l.m-index → leads (model l.self.prepared.now.bundle) l.self.list.now (get_or l.self.list.now k 0) ≡ false
