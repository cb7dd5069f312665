-- The instruction of the rules that one of the code stands for.
-- Assumes nothing.
use Rattle.rules.specs.Model.{Instr, arg, new, send, resend}
use Rattle.layout.specs.declared.instruction.Instruction.{Instruction}
use Rattle.layout.specs.declared.instruction.Instruction.TheVariants.{Arg, New, Send, Resend}

unfoldable pub instr : Instruction → Instr
instr (Arg place) = arg place
instr (New class) = new class
instr (Send function) = send function
instr Resend = resend
