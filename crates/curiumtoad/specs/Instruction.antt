-- The call for one instruction of a method: what its answer says, and what it is to be.
-- Assumes nothing.
use Rattle.std.specs.Prelude.{ℕ, List, ltb, Result, Ok, Err}
use Rattle.std.proofs.Math.Option.{Option}
use Rattle.rules.specs.Numbers as numbers
use Rattle.rules.specs.Layout.{Answer, gives, require}
use Rattle.rules.specs.Model.{Instr}
use Rattle.rules.specs.Calls.{when_open}
use Rattle.answers.specs.Refusals.{refusal_said}
use Rattle.answers.specs.declared.refusal.Refusal.{Refusal}
use Rattle.std.proofs.Common as common
use Rattle.layout.specs.declared.instruction.Instruction.{Instruction}
use Rattle.reader.specs.Reader.{nth, reading_said}

abbrev pub instruction_said : Result (common.Option Instruction) Refusal → Answer (Option Instr)
instruction_said (Ok r) = gives (reading_said r)
instruction_said (Err r) = refusal_said r

-- the call: 1 to 9, then 18 for an absent method, then what stands at position n of the method's body
unfoldable pub instruction_call : List ℕ → ℕ → ℕ → Answer (Option Instr)
instruction_call b m n = when_open b (λ M. require (ltb m M.methods) numbers.absent (gives (nth (M.body m) n)))
