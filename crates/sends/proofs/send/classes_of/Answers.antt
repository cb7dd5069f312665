-- A send that keeps its rule passes classes that are there.
-- Assumes nothing.
use Rattle.std.proofs.Common.{arith, refl, sym, ◌∙◌}
use Rattle.answers.specs.Send.{tuple_of}
use Rattle.sends.proofs.Sent.{kept}
use Rattle.sends.proofs.send.classes_of.Goals as goal

pub arity-count-requires : goal.arity-count-requires
arity-count-requires c = (kept c.args.bundle.now.opened _ (tuple_of c.args.send) refl (sym c.is_send.ensures ∙ c.if-not-is_send.false)).function

pub class_bytes-classes-requires : goal.class_bytes-classes-requires
class_bytes-classes-requires c =
    let k = (kept c.args.bundle.now.opened _ (tuple_of c.args.send) refl (sym c.is_send.ensures ∙ c.if-not-is_send.false)).in_matrix in
    record { a0_lt_max_classes = k 0 (omega arith); a1_lt_max_classes = k 1 (omega arith); a2_lt_max_classes = k 2 (omega arith) }

pub returns-clause-passes : goal.returns-clause-passes
returns-clause-passes c =
    rw (c.arity-count.ensures.0, c.class_bytes-classes.ensures)
    (kept c.args.bundle.now.opened _ (tuple_of c.args.send) refl (sym c.is_send.ensures ∙ c.if-not-is_send.false)).passes
