-- `method_sets::table::word_of` meets its contract.
-- Assumes nothing.
use Rattle.std.proofs.Common.{ℕ, ◌-◌, arith, sym, ap, ◌∙◌}
use lib.Dec.{eqb}
use borrow.Author.Tests.{le-ltb}
use Rattle.rules.specs.Model.{model_of}
use Rattle.layout.proofs.Opened.{counts_of, placed_of}
use Rattle.method_sets.specs.Sets.{method_at, method_of}
use Rattle.method_sets.proofs.Orders.{method_present}
use Rattle.method_sets.proofs.Rows.{of_function}
use Rattle.method_sets.proofs.Words.{packed_none, packed_next}
use Rattle.method_sets.proofs.table.word_of.Goals as goal

pub loop-i-init : goal.loop-i-init
unfolding method_of
loop-i-init c =
    packed_none c.word_end-i.ensures (λ j h. rw (le-ltb j (model_of c.args.bundle.now.bytes.now).methods (omega (arith, (counts_of c.args.bundle.now.opened).methods))))

pub bounds-order-i : goal.bounds-order-i
bounds-order-i c = omega (arith, c.loop-i.invariant.within (omega arith), (placed_of c.args.bundle.now.opened).methods_limit)

pub function-requires : goal.function-requires
function-requires c =
    method_present c.args.bundle.now.opened c.requires.ordered _ (omega (arith, c.loop-i.invariant.within (omega arith)))

pub loop-i-preserved : goal.loop-i-preserved
unfolding method_at
loop-i-preserved c =
    let a = c.args in
    let counts = counts_of c.args.bundle.now.opened in
    let test = of_function (model_of a.bundle.now.bytes.now) a.order.now a.f (c.loop-i.i - 1) (omega (arith, c.loop-i.invariant.within (omega arith))) in
    rw c.doubled-bits.ensures (packed_next c.loop-i.invariant (omega arith) _ (ap (λ (g : ℕ). eqb g a.f) c.function.ensures.0 ∙ sym test))
