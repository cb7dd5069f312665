-- Each class written is the lowest under the class at its place.
-- Assumes nothing.
use native.Mathlib.Omega.{arith}
use mathlib.Core.Path.{ap, ◌∙◌}
use lib.ListN.{get_or, length-set}
use Rattle.layout.specs.Bundles.{model}
use Rattle.rules.specs.Rough.{has_concrete}
use Rattle.rules.proofs.Lists.{every_broken}
use Rattle.layout.proofs.Opened.{counts_of, placed_of}
use Rattle.subclasses.proofs.Asked.{class_below}
use Rattle.upper_classes.specs.Lowest.{lowest_under}
use Rattle.upper_classes.proofs.Lowest.{lowest_is, lowest_none_under, candidates_more, places_below}
use Rattle.upper_classes.proofs.least.least_below.Goals as goal

pub lowest_under-requires : goal.lowest_under-requires
lowest_under-requires c =
    let counts = counts_of c.args.prepared.now.prepared.opened in
    omega (arith, class_below _ _ c.requires.upper_value c.loop-place.place (omega arith))

pub returns-in_err-k : goal.returns-in_err-k
returns-in_err-k c =
    let M = model c.args.prepared.now.bundle in
    let none = lowest_none_under M (get_or c.args.upper.now c.loop-place.place 0) (c.in_err-k.ensures ∙ ap (lowest_under M) c.from.ensures) in
    rw c.from_residual.ensures (every_broken (has_concrete M) c.args.upper.now 0 c.loop-place.place (omega arith) none)

pub overflow_cast-least : goal.overflow_cast-least
overflow_cast-least c =
    let o = c.args.prepared.now.prepared.opened in
    let counts = counts_of o in
    omega (arith, (lowest_is (model c.args.prepared.now.bundle) c.from.result c.in_ok-k.k c.in_ok-k.ensures).0, (placed_of o).classes_limit)

pub loop-place-preserved : goal.loop-place-preserved
loop-place-preserved c =
    let M = model c.args.prepared.now.bundle in
    let l = c.loop-place in
    let low = lowest_is M (get_or c.args.upper.now l.place 0) c.in_ok-k.k (c.in_ok-k.ensures ∙ ap (lowest_under M) c.from.ensures) in
    record {
      long = length-set l.least l.place c.in_ok-k.k ∙ l.invariant.long;
      candidates = candidates_more M c.args.upper.now l.least l.place c.in_ok-k.k (omega (arith, l.invariant.long)) l.invariant.candidates low.1;
    }

pub returns : goal.returns
returns c =
    let l = c.loop-place in (
      l.invariant.long,
      places_below (model c.args.prepared.now.bundle) c.args.upper.now l.least (omega (arith, l.invariant.long)) (λ i h. l.invariant.candidates i (omega arith)),
    )
