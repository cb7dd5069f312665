use Rattle.std.proofs.Common.{arith}
use Rattle.layout.proofs.Tuples.{method_below, method_places, specialisers_part}
use Rattle.layout.proofs.open.OpenBundle.specialisers.Goals as goal

pub specialiser_tuple_at-requires : goal.specialiser_tuple_at-requires
specialiser_tuple_at-requires c = rw c.records.ensures.1 (method_below c.args.self.now.opened c.requires)

pub part-requires : goal.part-requires
part-requires c =
    let read = rw c.records.ensures.0 at c.specialiser_tuple_at.ensures.1 in
    omega (arith, method_places c.args.self.now.opened c.requires)

pub returns-clause-ref_ptr_value : goal.returns-clause-ref_ptr_value
returns-clause-ref_ptr_value c = let read = rw c.records.ensures.0 at c.specialiser_tuple_at.ensures.0 in cc

pub returns-clause-result_value : goal.returns-clause-result_value
returns-clause-result_value c =
    let read = rw c.records.ensures.0 at c.specialiser_tuple_at.ensures.0 in
    cc (specialisers_part c.args.self.now.opened c.requires)
