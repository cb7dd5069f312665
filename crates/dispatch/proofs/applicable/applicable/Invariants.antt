-- The loop's invariant: the list has those of the methods below the next one that apply, without `but`, and the next one is of the function. There is room for
-- every method.
use Rattle.std.proofs.Common.{◌-◌, ◌≤◌}
use Rattle.rules.specs.Layout.{max_methods}
use Rattle.layout.specs.Bundles.{model}
use Rattle.dispatch.specs.Index.{number_or_count}
use Rattle.dispatch.proofs.Indexed.{Walking}
use Rattle.dispatch.proofs.applicable.applicable.Given as goal

abbrev pub invariant-loop-next : goal.invariant-loop-next
invariant-loop-next l =
    let M = model l.indexed.prepared.bundle in
    record { few : M.methods ≤ max_methods; walking : Walking M l.f l.args l.but l.list.items l.next }

abbrev pub decreases-loop-next : goal.decreases-loop-next
decreases-loop-next l = let M = model l.indexed.prepared.bundle in M.methods - number_or_count M l.next
