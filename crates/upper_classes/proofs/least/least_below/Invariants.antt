-- The loop's invariant: the classes written are concrete, each under the class at its place.
-- Assumes nothing.
use mathlib.Core.Path.{◌≡◌}
use lib.ListN.{length}
use Rattle.rules.specs.Layout.{places}
use Rattle.layout.specs.Bundles.{model}
use Rattle.upper_classes.proofs.Lowest.{Candidates}
use Rattle.upper_classes.proofs.least.least_below.Given as goal

abbrev pub invariant-loop-place : goal.invariant-loop-place
invariant-loop-place l = record { long : length l.least ≡ places; candidates : Candidates (model l.prepared.bundle) l.upper l.least l.place }
