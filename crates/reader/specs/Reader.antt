-- The body reader: what it gives at a position of a method's code, where it stands afterwards, and the law that it gives a method's instructions.
-- Assumes nothing.
use Rattle.std.specs.Prelude.{ℕ, zero, suc, ◌+◌, ◌≡◌, Bool, true, false, List, [], ◌∷◌, ◌++◌, map, leb, length, replicate}
use Rattle.std.specs.Prelude as read
use Rattle.std.proofs.Math.Option.{Option, none, some}
use Rattle.rules.specs.Layout.{gives}
use Rattle.rules.specs.Model.{Instr, decode, model_of}
use Rattle.rules.specs.Calls.{body_view_call}
use Rattle.layout.specs.Instruction.{instr}
use Rattle.layout.specs.declared.instruction.Instruction.{Instruction}
use Rattle.reader.specs.declared.BodyReader.{BodyReader}

-- element n of a list, or none past its end
unfoldable pub nth : {A : Type 0} → List A → ℕ → Option A
nth [] n = none
nth (x ∷ xs) zero = some x
nth (x ∷ xs) (suc n) = nth xs n

unfoldable pub known : Bool → Instr → Option Instr
known true i = some i
known false i = none

-- bytes whose operation is none of the four are no instruction (M 2.8); operands are not tested
unfoldable pub instruction_of : ℕ → ℕ → Option Instr
instruction_of operation operand = known (leb operation 3) (decode operation operand)

-- The instruction at a position of any bytes, counted in instructions: none past the end, none where one byte is left, none where the operation is
-- unknown. The code of a method of a bundle that opens is whole and has no unknown operation, so there it is none at the end alone (`ReadsBody`).
unfoldable pub reading_at : List ℕ → ℕ → Option Instr
reading_at [] at = none
reading_at (x ∷ []) at = none
reading_at (x ∷ y ∷ rest) zero = instruction_of x y
reading_at (x ∷ y ∷ rest) (suc at) = reading_at rest at

-- past what was read, and where it was when there was none
unfoldable pub past : Option Instr → ℕ → ℕ
past none at = at
past (some i) at = suc at

unfoldable pub place_after : List ℕ → ℕ → ℕ
place_after code at = past (reading_at code at) at

-- the same code, one position on
abbrev pub advanced : BodyReader → BodyReader
advanced r = record { code = r.code; at = place_after r.code.now r.at }

abbrev pub reading_said : read.Option Instruction → Option Instr
reading_said (read.Some i) = some (instr i)
reading_said read.None = none

-- what a reader gives in so many readings, one after another
unfoldable pub readings : BodyReader → ℕ → List (Option Instr)
readings r zero = []
readings r (suc k) = reading_at r.code.now r.at ∷ readings (advanced r) k

-- The law of the reader: at the start of the part that the body view hands back it gives the instructions of the body in their order, and from then on that there are no more,
-- however often it is asked. The instructions are those of the model, which the machine and the check of bodies go by.
abbrev pub ReadsBody : List ℕ → ℕ → Type 0
ReadsBody b m =
    (r : BodyReader) → body_view_call b m ≡ gives r.code.now → r.at ≡ 0
    → (k : ℕ) → readings r (length ((model_of b).body m) + k) ≡ map some ((model_of b).body m) ++ replicate k none
