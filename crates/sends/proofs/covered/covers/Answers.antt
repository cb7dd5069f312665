-- The classes of a signature are there, and as many as its function has places.
-- Assumes nothing.
use Rattle.std.proofs.Common.{sym, ◌∙◌}
use Rattle.sends.proofs.Signatures.{signature_present, signature_long}
use Rattle.sends.proofs.covered.covers.Goals as goal

pub each_under-requires-clause-above_present : goal.each_under-requires-clause-above_present
each_under-requires-clause-above_present c =
    rw c.signature_classes.ensures.result_value (signature_present c.args.prepared.now.bundle.opened _ c.requires.signature_lt_signatures)

pub each_under-requires-clause-as_long : goal.each_under-requires-clause-as_long
each_under-requires-clause-as_long c =
    rw c.signature_classes.ensures.result_value
    (c.requires.arguments.arity ∙ sym (signature_long c.args.prepared.now.bundle.opened _ c.requires.signature_lt_signatures))
