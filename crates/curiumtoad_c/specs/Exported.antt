-- What an exported function returns and writes: the number and the eight values of the reply to its call's answer.
-- Assumes nothing.
use Rattle.std.specs.Prelude.{ℕ, ◌≡◌, List, [], ◌∷◌, length}
use Rattle.rules.specs.Layout.{code_at}
use Rattle.reply.specs.declared.Reply as reply-type

-- raised by each change of the bundle's layout, of what is lent and written, or of a function's arguments
abbrev pub version : ℕ
version = 5

-- the reply is handed over: its number is returned, its values are written
abbrev pub Handed : reply-type.Reply → ℕ → List ℕ → Type 0
Handed x number values = (number ≡ x.number) × (values ≡ x.values)

-- the body view: where the part begins within the bundle, and its length
abbrev pub placed : List ℕ → ℕ → List ℕ → List ℕ
placed b m part = code_at b m ∷ length part ∷ []
