-- `machine::returning::value_of`: where the body has ended in other than one value, the run stops by 14.
-- Assumes nothing.
use Rattle.std.proofs.Common.{ℕ, ◌≤◌, length, sym, ap, ◌∙◌, arith}
use Rattle.layout.specs.Bundles.{model}
use Rattle.layout.proofs.Opened.{counts_of}
use Rattle.frames.specs.Arrays.{method_at, next_at}
use Rattle.machine.proofs.Stores.{numbers_of}
use Rattle.machine.proofs.Ended.{resumed_stops}
use Rattle.machine.proofs.returning.value_of.Goals as goal

pub size-requires : goal.size-requires
size-requires c = omega (arith, c.method-m.ensures, (numbers_of c.requires.held).method_present, counts_of c.args.bundle.now.opened)

pub returns-then-height-ne1 : goal.returns-then-height-ne1
returns-then-height-ne1 c =
    let f = c.args.frames.now in
    let k = c.args.k in
    let M = model c.args.bundle.now in
    let sized = c.size.ensures.0 ∙ ap (λ (m : ℕ). length (M.body m)) c.method-m.ensures in
    let over : length (M.body (method_at f.numbers k)) ≤ next_at f.numbers k = omega (arith, sized, c.if-at-size.false, c.next-at.ensures) in
    rw (c.method-m.ensures, c.next-at.ensures) (sym (resumed_stops M f.numbers f.values k over (λ q. c.if-height-ne1.true (c.height.ensures ∙ q))))
