-- A send as the values that answers name for it.
-- Assumes nothing.
use Rattle.std.specs.Prelude.{ℕ, List, [], ◌∷◌}
use Rattle.answers.specs.declared.send.Tuple as tuple_type
use Rattle.answers.specs.declared.send.Send as send-type

-- the classes at the places
abbrev pub classes_of : tuple_type.Tuple → List ℕ
classes_of t = t.a0 ∷ t.a1 ∷ t.a2 ∷ []

-- those of a send
abbrev pub tuple_of : send-type.Send → List ℕ
tuple_of s = classes_of s.tuple

-- the function, and its places
abbrev pub send_values : send-type.Send → List ℕ
send_values s = s.function ∷ tuple_of s
