-- Each instruction by its case.
use mathlib.Core.Path.{sym, ap, ◌∙◌}
use Rattle.layout.specs.Instruction.{instr}
use Rattle.typing.proofs.Operands.{operand_arg, operand_new, operand_send}
use Rattle.typing.proofs.Bodies.{applied_arg, applied_new, applied_abstract}
use Rattle.typing.proofs.body.apply.Goals as goal

pub arg_row-requires-clause-place_lt_places : goal.arg_row-requires-clause-place_lt_places
unfolding instr
arg_row-requires-clause-place_lt_places c =
    operand_arg c.args.indexed.now.prepared.bundle.opened _ c.requires.m_lt_methods _ c.requires.i_value _ (ap instr c.in-Arg.is)

pub is_concrete-requires : goal.is_concrete-requires
unfolding instr
is_concrete-requires c =
    operand_new c.args.indexed.now.prepared.bundle.opened _ c.requires.m_lt_methods _ c.requires.i_value _ (ap instr c.in-New.is)

pub class_row-requires : goal.class_row-requires
unfolding instr
class_row-requires c =
    operand_new c.args.indexed.now.prepared.bundle.opened _ c.requires.m_lt_methods _ c.requires.i_value _ (ap instr c.in-New.is)

pub apply_send-requires-clause-f_lt_functions : goal.apply_send-requires-clause-f_lt_functions
unfolding instr
apply_send-requires-clause-f_lt_functions c =
    operand_send c.args.indexed.now.prepared.bundle.opened _ c.requires.m_lt_methods _ c.requires.i_value _ (ap instr c.in-Send.is)

pub returns-in-Arg : goal.returns-in-Arg
unfolding instr
returns-in-Arg c =
    rw c.in-Arg.is
    (applied_arg _ _ _ c.arg_row.result _ c.push.ensures.items _ c.arg_row.ensures)

pub returns-then-is_concrete : goal.returns-then-is_concrete
unfolding instr
returns-then-is_concrete c =
    rw c.in-New.is
    (applied_new _ _ _ c.class_row.result _ c.push-then-is_concrete.ensures.items _
    (sym c.is_concrete.ensures ∙ c.if-is_concrete.true) c.class_row.ensures)

pub returns-else-is_concrete : goal.returns-else-is_concrete
unfolding instr
returns-else-is_concrete c = rw c.in-New.is (applied_abstract _ _ _ _ (sym c.is_concrete.ensures ∙ c.if-is_concrete.false))

pub returns-in-Send : goal.returns-in-Send
unfolding instr
returns-in-Send c = rw c.in-Send.is (c.apply_send.ensures.in_method _)

pub returns-in-Resend : goal.returns-in-Resend
unfolding instr
returns-in-Resend c = rw c.in-Resend.is c.apply_resend.ensures
