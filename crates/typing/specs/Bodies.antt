-- The check of a body: the stack of types as rows, an instruction's effect on it, the answer of the check.
-- Assumes nothing.
use Rattle.std.specs.Prelude.{ℕ, ◌≡◌, List, reverse, length, Result, Ok, Err}
use Rattle.rules.specs.Model.{Model, Instr, send}
use Rattle.rules.specs.Types.{Static, Typing, typed, breaks, Effect, leaves, breaks_by, effect, ending}
use Rattle.answers.specs.Numbers.{code_of}
use Rattle.answers.specs.declared.number.Number.{Number}
use Rattle.typing.specs.Rows.{Rows}
use Rattle.typing.specs.declared.body.BodyError.{BodyError}

-- the answer of the check as the rules give it
unfoldable pub typing_of : Result (Unit {0}) BodyError → Typing
typing_of (Ok u) = typed
typing_of (Err e) = breaks (code_of e.number) e.instruction

-- the rows hold the stack, its top in the highest
pub record Holds (M : Model) (rows : List (List ℕ)) (stack : List Static) : Type 0 where
  pub height : length stack ≡ length rows
  pub held : Rows M rows (reverse stack)

-- an effect, with the stack that it leaves, is that of the rules
unfoldable pub Agrees : Model → List (List ℕ) → Result (Unit {0}) Number → Effect → Type 0
Agrees M rows (Ok u) (leaves stack) = Holds M rows stack
Agrees M rows (Ok u) (breaks_by number) = ⊥
Agrees M rows (Err number) (leaves stack) = ⊥
Agrees M rows (Err number) (breaks_by other) = code_of number ≡ other

-- what the instruction does to whatever stack the rows hold
pub record Applied (M : Model) (m : ℕ) (i : Instr) (old new : List (List ℕ)) (r : Result (Unit {0}) Number) : Type 0 where
  pub agrees : (stack : List Static) → Holds M old stack → Agrees M new r (effect M m stack i)

-- a send does the same in every method
pub record AppliedSend (M : Model) (f : ℕ) (old new : List (List ℕ)) (r : Result (Unit {0}) Number) : Type 0 where
  pub in_method : (m : ℕ) → Applied M m (send f) old new r

-- the answer of the end, as that of an instruction at a place
unfoldable pub ended_at : ℕ → Result (Unit {0}) Number → Typing
ended_at at (Ok u) = typed
ended_at at (Err number) = breaks (code_of number) at

-- what the end of the body says to whatever stack the rows hold
pub record Ended (M : Model) (m : ℕ) (rows : List (List ℕ)) (r : Result (Unit {0}) Number) : Type 0 where
  pub says : (at : ℕ) (stack : List Static) → Holds M rows stack → ended_at at r ≡ ending M m at stack
