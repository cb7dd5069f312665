-- The listing (M 12.1): the text that the program prints for the bundle on its standard input, whatever it is.
-- Assumes nothing.
use Rattle.std.specs.Prelude.{ℕ, List, [], ◌∷◌, ◌++◌, get_or, take, drop}
use Prim.Native.String.{String}
use Rattle.rules.specs.Layout.{Answer, gives, refuses, opening, places}
use Rattle.rules.specs.Model.{Model, model_of}
use Rattle.rules.specs.Coverage.{verdict}
use Rattle.rules.specs.Ascii.{ascii}
use Rattle.rules.specs.Decimal.{decimal}

-- a word and a number
unfoldable pub field : String → ℕ → List ℕ
field word n = ascii word ++ decimal n

-- the line of the counts
unfoldable pub counts_line : List ℕ → List ℕ
counts_line counts =
    field "classes " (get_or counts 0 0)
    ++ field " functions " (get_or counts 1 0)
    ++ field " signatures " (get_or counts 2 0)
    ++ field " methods " (get_or counts 3 0)
    ++ ascii "\n"

-- the classes of a send, each behind a blank
unfoldable pub classes : List ℕ → List ℕ
classes [] = []
classes (c ∷ cs) = field " " c ++ classes cs

-- what is printed behind a send: nothing for 10, the two rivals for 11, the one method for 12 and 13
unfoldable pub methods : List ℕ → List ℕ
methods [] = []
methods (m ∷ []) = field " method " m
methods (m ∷ n ∷ ns) = field " methods " m ++ field " " n

-- The values that come with a number. None: 1 to 3. One, the record: 4 to 9. Two, method and instruction: 14 to 17 and 25 to 27. More: 10 to 13,
-- signature, send and methods; a tuple has a value for each of the layout's places, and as many are printed as
-- the function has arguments.
unfoldable pub finding : Model → List ℕ → List ℕ
finding M [] = []
finding M (r ∷ []) = field " record " r
finding M (m ∷ i ∷ []) = field " method " m ++ field " at " i
finding M (s ∷ f ∷ a ∷ rest) =
    field " signature " s
    ++ field " send " f
    ++ classes (take (M.arity f) (a ∷ rest))
    ++ methods (drop places (a ∷ rest))

-- the number and what comes with it
unfoldable pub refused_line : Model → ℕ → List ℕ → List ℕ
refused_line M number values = field "refused " number ++ finding M values ++ ascii "\n"

-- the line of a call that is refused; there is none where it gives something
unfoldable pub refusal_line : {A : Type 0} → Model → Answer A → List ℕ
refusal_line M (gives x) = []
refusal_line M (refuses number values) = refused_line M number values

-- the line of the verdict: accepted, or the refusal
unfoldable pub verdict_line : Model → Answer (Unit {0}) → List ℕ
verdict_line M (gives accepted) = ascii "accepted\n"
verdict_line M (refuses number values) = refused_line M number values

-- a bundle that does not open has no counts to print
unfoldable pub listing_on : Answer (List ℕ) → Model → List ℕ
listing_on (gives counts) M = counts_line counts ++ verdict_line M (verdict M)
listing_on (refuses number values) M = refused_line M number values

-- the text for a bundle
unfoldable pub listing : List ℕ → List ℕ
listing b = listing_on (opening b) (model_of b)
