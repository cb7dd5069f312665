-- The function, then the places.
-- Assumes nothing.
use Rattle.std.proofs.Common.{arith, sym, ◌∙◌}
use borrow.Author.Tests.{le-ltb}
use Rattle.sends.proofs.Sent.{absent_function, present_function}
use Rattle.sends.proofs.send.is_send.Goals as goal

pub returns-then-send-bundle : goal.returns-then-send-bundle
returns-then-send-bundle c = c.is_tuple.ensures ∙ present_function c.args.bundle.now.opened _ _ (omega arith) c.arity.ensures.0

pub returns-else-send-bundle : goal.returns-else-send-bundle
returns-else-send-bundle c = le-ltb _ _ c.if-send-bundle.false ∙ sym (absent_function c.args.bundle.now.opened _ _ c.if-send-bundle.false)
