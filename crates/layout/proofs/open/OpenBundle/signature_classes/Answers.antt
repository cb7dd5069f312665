use Rattle.std.proofs.Common.{arith}
use Rattle.layout.proofs.Tuples.{signature_places, signature_part}
use Rattle.layout.proofs.open.OpenBundle.signature_classes.Goals as goal

pub part-requires : goal.part-requires
part-requires c =
    let read = rw c.records.ensures.0 at c.sig_tuple_at.ensures.1 in
    omega (arith, signature_places c.args.self.now.opened c.requires.s_lt_signatures c.requires.n_value)

pub returns-clause-ref_ptr_value : goal.returns-clause-ref_ptr_value
returns-clause-ref_ptr_value c = let read = rw c.records.ensures.0 at c.sig_tuple_at.ensures.0 in cc

pub returns-clause-result_value : goal.returns-clause-result_value
returns-clause-result_value c =
    let read = rw c.records.ensures.0 at c.sig_tuple_at.ensures.0 in
    cc (signature_part c.args.self.now.opened c.requires.s_lt_signatures c.requires.n_value)
