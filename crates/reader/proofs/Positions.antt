-- What the body reader gives at each position, and the law that it gives a method's instructions in order and then none.
-- Assumes nothing.
use Prim.Native.Nat.{ℕ, zero, suc, ◌+◌, ◌*◌, ◌/◌, ◌≤◌, ◌<◌}
use native.Mathlib.Omega.{arith}
use mathlib.Core.Path.{◌≡◌, refl, ap}
use mathlib.Core.Bool.{Bool, true, false, false≢true}
use mathlib.Core.List.{List, [], ◌∷◌, ◌++◌, map}
use mathlib.Core.Option.{Option, none, some}
use lib.Dec.{ltb}
use lib.ListN.{length, replicate}
use borrow.Author.Tests.{ltb-true, le-leb, lt-leb}
use Rattle.rules.specs.Bytes.{byte}
use Rattle.rules.specs.Layout.{Answer, gives, refuses, opening, require, method_count, instruction_rule, every_pair, code_of, code_rule}
use Rattle.rules.specs.Model.{Instr, decode, instructions, model_of}
use Rattle.rules.specs.Calls.{on_opening, when_open, body_view_call}
use Rattle.rules.proofs.Lists.{and_left, and_right}
use Rattle.rules.proofs.Opening.{Rules, opened_rules}
use Rattle.reader.specs.declared.BodyReader.{BodyReader}
use Rattle.reader.specs.Reader.{nth, known, instruction_of, reading_at, past, place_after, advanced, readings, ReadsBody}

-- two bytes are an instruction where the operation is one of the four
pub known_pair : (operation operand : ℕ) → operation ≤ 3 → instruction_of operation operand ≡ some (decode operation operand)
unfolding instruction_of known
known_pair operation operand h = rw (le-leb operation 3 h)

pub unknown_pair : (operation operand : ℕ) → 3 < operation → instruction_of operation operand ≡ none
unfolding instruction_of known
unknown_pair operation operand h = rw (lt-leb operation 3 h)

-- past the last pair of bytes there is none
pub read_past : (code : List ℕ) (at : ℕ) → length code / 2 ≤ at → reading_at code at ≡ none
unfolding reading_at
read_past [] at h = refl
read_past (x ∷ []) at h = refl
read_past (x ∷ y ∷ rest) zero h = absurd (omega arith)
read_past (x ∷ y ∷ rest) (suc at) h = read_past rest at (omega arith)

-- before it the pair is read
pub read_pair : (code : List ℕ) (at : ℕ) → at < length code / 2 → reading_at code at ≡ instruction_of (byte code (2 * at)) (byte code (2 * at + 1))
unfolding reading_at byte
read_pair [] at h = absurd (omega arith)
read_pair (x ∷ []) at h = absurd (omega arith)
read_pair (x ∷ y ∷ rest) zero h = refl
read_pair (x ∷ y ∷ rest) (suc at) h =
    let even : 2 * suc at ≡ suc (suc (2 * at)) = omega arith in
    let odd : 2 * suc at + 1 ≡ suc (suc (2 * at + 1)) = omega arith in
    rw (odd, even) (read_pair rest at (omega arith))

-- where an instruction was read, a pair stood
pub read_within : (code : List ℕ) (at : ℕ) (i : Instr) → reading_at code at ≡ some i → at < length code / 2
unfolding reading_at
read_within [] at i e = absurd (false≢true cc)
read_within (x ∷ []) at i e = absurd (false≢true cc)
read_within (x ∷ y ∷ rest) zero i e = omega arith
read_within (x ∷ y ∷ rest) (suc at) i e = omega (arith, read_within rest at i e)

-- where a reader stands afterwards
pub place_read : (code : List ℕ) (at : ℕ) (i : Instr) → reading_at code at ≡ some i → place_after code at ≡ at + 1
unfolding place_after past
place_read code at i e = rw e (omega arith)

pub place_none : (code : List ℕ) (at : ℕ) → reading_at code at ≡ none → place_after code at ≡ at
unfolding place_after past
place_none code at e = rw e

known_operation : (a c f x y : ℕ) → instruction_rule a c f x y ≡ true → x ≤ 3
unfolding instruction_rule
known_operation a c f zero y h = omega arith
known_operation a c f (suc zero) y h = omega arith
known_operation a c f (suc (suc zero)) y h = omega arith
known_operation a c f (suc (suc (suc zero))) y h = omega arith
known_operation a c f (suc (suc (suc (suc n)))) y h = absurd (false≢true h)

-- code that keeps number 9 reads as the model's instructions
pub read_instructions : (a c f : ℕ) (code : List ℕ) → every_pair (instruction_rule a c f) code ≡ true
    → (at : ℕ) → reading_at code at ≡ nth (instructions code) at
unfolding every_pair reading_at nth instructions
read_instructions a c f [] e at = refl
read_instructions a c f (x ∷ []) e at = refl
read_instructions a c f (x ∷ y ∷ rest) e zero =
    known_pair x y (known_operation a c f x y (and_left (instruction_rule a c f x y) (every_pair (instruction_rule a c f) rest) e))
read_instructions a c f (x ∷ y ∷ rest) e (suc at) =
    read_instructions a c f rest (and_right (instruction_rule a c f x y) (every_pair (instruction_rule a c f) rest) e) at

-- where there is none, there is none however often it is asked
none_left : (r : BodyReader) (k : ℕ) → reading_at r.code.now r.at ≡ none → readings r k ≡ replicate k none
unfolding readings
none_left r zero e = refl
none_left r (suc k) e =
    let stays : advanced r ≡ r = ap (λ (at : ℕ). record { code = r.code; at = at }) (place_none r.code.now r.at e) in
    rw (e, stays) (ap (λ (rest : List (Option Instr)). none ∷ rest) (none_left r k e))

-- what is left to read from a position on is read in order
in_order : (r : BodyReader) (rest : List Instr) (k : ℕ) → ((j : ℕ) → reading_at r.code.now (r.at + j) ≡ nth rest j)
    → readings r (length rest + k) ≡ map some rest ++ replicate k none
unfolding readings nth
in_order r [] k left =
    let here : r.at + 0 ≡ r.at = omega arith in
    let none_more : 0 + k ≡ k = omega arith in
    rw none_more (none_left r k (rw here at (left 0)))
in_order r (x ∷ xs) k left =
    let here : r.at + 0 ≡ r.at = omega arith in
    let one_more : suc (length xs) + k ≡ suc (length xs + k) = omega arith in
    let given : reading_at r.code.now r.at ≡ some x = rw here at (left 0) in
    let then : (j : ℕ) → reading_at r.code.now ((advanced r).at + j) ≡ nth xs j =
    (λ j.
    let next : r.at + suc j ≡ (advanced r).at + j = omega (arith, place_read r.code.now r.at x given) in
    rw next at (left (suc j))) in
    rw (one_more, given) (ap (λ (more : List (Option Instr)). some x ∷ more) (in_order (advanced r) xs k then))

-- the part that the body view gives is the method's code, and keeps number 9
view_code : (b : List ℕ) (m : ℕ) (code : List ℕ) → body_view_call b m ≡ gives code → (code ≡ code_of b m) × (code_rule b m ≡ true)
unfolding body_view_call when_open on_opening require model_of
view_code b m code e = opened (opening b) refl e
  where
    present : Rules b → (t : Bool) → ltb m (method_count b) ≡ t → require t 18 (gives (code_of b m)) ≡ gives code
        → (code ≡ code_of b m) × (code_rule b m ≡ true)
    present rules true h e = (cc, rules.of_code m (ltb-true m (method_count b) h))
    present rules false h e = (cc, cc)

    opened : (a : Answer (List ℕ)) → opening b ≡ a → on_opening a (model_of b) (λ M. require (ltb m M.methods) 18 (gives (code_of b m))) ≡ gives code
        → (code ≡ code_of b m) × (code_rule b m ≡ true)
    opened (gives counts) o e = present (opened_rules b counts o) (ltb m (method_count b)) refl e
    opened (refuses number values) o e = (cc, cc)

-- the law of the reader
pub reads_body : (b : List ℕ) (m : ℕ) → ReadsBody b m
unfolding model_of code_rule
reads_body b m r e start k =
    let view = view_code b m r.code.now e in
    let read : (j : ℕ) → reading_at r.code.now (r.at + j) ≡ nth (instructions (code_of b m)) j =
    (λ j.
    let from : r.at + j ≡ j = omega arith in
    rw (view.0, from) (read_instructions _ _ _ (code_of b m) view.1 j)) in
    in_order r (instructions (code_of b m)) k read
