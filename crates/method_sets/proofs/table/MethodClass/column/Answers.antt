-- `method_sets::table::MethodClass::column` meets its contract.
-- Assumes nothing.
use Rattle.std.proofs.Common.{length, ◌<◌, arith}
use Rattle.rules.specs.Model.{model_of}
use Rattle.layout.proofs.Opened.{counts_of, placed_of}
use Rattle.method_sets.specs.Classes.{is_declared}
use Rattle.method_sets.specs.Sets.{method_at}
use Rattle.method_sets.proofs.Stored.{pushed_more}
use Rattle.method_sets.proofs.Orders.{method_present}
use Rattle.method_sets.proofs.Rows.{OfMethod}
use Rattle.method_sets.proofs.table.MethodClass.column.Goals as goal

pub bounds-order-i : goal.bounds-order-i
bounds-order-i c = omega (arith, (placed_of c.args.bundle.now.opened).methods_limit)

pub offset_bounds-order-i : goal.offset_bounds-order-i
offset_bounds-order-i c = omega (arith, (placed_of c.args.bundle.now.opened).methods_limit)

pub of-requires-clause-m_lt_methods : goal.of-requires-clause-m_lt_methods
of-requires-clause-m_lt_methods c = method_present c.args.bundle.now.opened c.requires.ordered c.loop-i.i (omega arith)

pub overflow_cast-of : goal.overflow_cast-of
overflow_cast-of c = omega (arith, c.of.ensures.1, (placed_of c.args.bundle.now.opened).classes_limit)

pub push-requires : goal.push-requires
push-requires c =
    let room : length c.loop-i.classes.items < 512 = omega (arith, (placed_of c.args.bundle.now.opened).methods_limit) in
    (omega arith, room)

pub loop-i-preserved : goal.loop-i-preserved
unfolding method_at
loop-i-preserved c =
    let l = c.loop-i in
    let a = c.args in
    let o = c.args.bundle.now.opened in
    let counts = counts_of o in
    let r = c.of.ensures in
    let P = OfMethod (is_declared a.self) (model_of a.bundle.now.bytes.now) a.order.now a.place in
    record {
      long = omega arith;
      told = rw c.push.ensures.items (pushed_more P l.classes.items l.i c.of.result l.invariant.long l.invariant.told (r.0, omega (arith, r.1)));
    }

pub returns : goal.returns
returns c =
    let l = c.loop-i in
    let counts = counts_of c.args.bundle.now.opened in
    record { long = omega arith; classes = λ i h. l.invariant.told i (omega arith) }
