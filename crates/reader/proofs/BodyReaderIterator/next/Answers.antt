-- The body reader's `next` meets its contract: past an instruction fewer pairs of bytes are left.
-- Assumes nothing.
use Rattle.std.proofs.Common.{◌≡◌, ◌-◌, ◌/◌, length, arith, sym}
use Rattle.std.specs.Prelude.{Option, Some, None, ⊤}
use Rattle.std.specs.Iterator.{MakesProgress, at_most}
use Rattle.layout.specs.declared.instruction.Instruction.{Instruction}
use Rattle.layout.specs.Instruction.{instr}
use Rattle.reader.specs.declared.BodyReader.{BodyReader}
use Rattle.reader.specs.Reader.{reading_said, reading_at, place_after}
use Rattle.reader.proofs.Positions.{read_within, place_read}
use Rattle.reader.proofs.BodyReaderIterator.next.Goals as goal

goes : (r : BodyReader) (read : Option Instruction) → reading_said read ≡ reading_at r.code.now r.at
    → MakesProgress (λ _. ⊤) (λ (s : BodyReader). at_most (length s.code.now / 2 - s.at)) r read (record { code = r.code; at = place_after r.code.now r.at })
goes r (Some i) e =
    let within = read_within r.code.now r.at (instr i) (sym e) in
    let on = place_read r.code.now r.at (instr i) (sym e) in
    record { on = λ _. (tt, tt, omega arith); keeps = tt; rests = λ _. tt }
goes r None e = record { on = λ _. tt; keeps = tt; rests = λ _. tt }

pub returns-clause-goes : goal.returns-clause-goes
returns-clause-goes c = rw c.place_after-self.ensures (goes c.args.self.now c.read_at-read.result c.read_at-read.ensures)
