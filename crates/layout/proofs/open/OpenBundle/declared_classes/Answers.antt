use Rattle.std.proofs.Common.{arith}
use Rattle.layout.proofs.Tuples.{method_below, method_places, declared_part}
use Rattle.layout.proofs.open.OpenBundle.declared_classes.Goals as goal

pub declared_tuple_at-requires : goal.declared_tuple_at-requires
declared_tuple_at-requires c = rw c.records.ensures.1 (method_below c.args.self.now.opened c.requires)

pub part-requires : goal.part-requires
part-requires c =
    let read = rw c.records.ensures.0 at c.declared_tuple_at.ensures.1 in
    omega (arith, method_places c.args.self.now.opened c.requires)

pub returns-clause-ref_ptr_value : goal.returns-clause-ref_ptr_value
returns-clause-ref_ptr_value c = let read = rw c.records.ensures.0 at c.declared_tuple_at.ensures.0 in cc

pub returns-clause-result_value : goal.returns-clause-result_value
returns-clause-result_value c =
    let read = rw c.records.ensures.0 at c.declared_tuple_at.ensures.0 in
    cc (declared_part c.args.self.now.opened c.requires)
