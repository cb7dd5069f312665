-- The chart of a function of two arguments (M 13): for each two concrete classes what a send of them finds. It is made a line at a time.
-- Assumes nothing.
use Rattle.std.specs.Prelude.{ℕ, zero, suc, ◌+◌, ◌*◌, ◌/◌, ◌%◌, cond, List, [], ◌∷◌, ◌++◌, ltb, leb, eqb, length, get_or, drop}
use Rattle.rules.specs.Numbers as numbers
use Rattle.rules.specs.Bounded.{upto, keep}
use Rattle.rules.specs.Ascii.{ascii}
use Rattle.rules.specs.Layout.{Answer, gives, refuses, require}
use Rattle.rules.specs.Model.{Model}
use Rattle.rules.specs.Lookup.{Found, found, missing, ambiguous, lookup}
use Rattle.rules.specs.Coverage.{concrete_class}
use Rattle.rules.specs.Calls.{with_scratch}

-- the concrete classes, in number order (M 13.1)
unfoldable pub concretes : Model → List ℕ
concretes M = keep (concrete_class M) (upto M.classes)

-- the digit of a number at a power of ten, a blank where the number is below the power
unfoldable pub digit_at : ℕ → ℕ → ℕ
digit_at power n = cond (ltb n power) 32 (48 + n / power % 10)

-- a number in four places, right-aligned (M 13.2)
unfoldable pub number : ℕ → List ℕ
number n = digit_at 1000 n ∷ digit_at 100 n ∷ digit_at 10 n ∷ (48 + n % 10) ∷ []

-- what a send finds, in four places (M 13.2)
unfoldable pub entry : Found → List ℕ
entry (found m) = number m
entry missing = ascii "   -"
entry (ambiguous m n) = ascii "   *"

-- Line 0 is headed by blanks, and has the class numbers. Line k is headed by the k-th concrete class: the first argument of what its columns find (M 13.2).
unfoldable pub heading : Model → ℕ → List ℕ
heading M zero = ascii "    "
heading M (suc k) = number (get_or (concretes M) k 0)

unfoldable pub cell : Model → ℕ → ℕ → ℕ → List ℕ
cell M f zero c = number c
cell M f (suc k) c = entry (lookup M f (get_or (concretes M) k 0 ∷ c ∷ []))

-- a blank and four places for each class
unfoldable pub columns : (ℕ → List ℕ) → List ℕ → List ℕ
columns places [] = []
columns places (c ∷ cs) = 32 ∷ places c ++ columns places cs

unfoldable pub chart_line : Model → ℕ → ℕ → List ℕ
chart_line M f k = heading M k ++ columns (cell M f k) (concretes M) ++ ascii "\n"

-- the bytes of a line, its newline among them (M 13.2)
unfoldable pub line_bytes : Model → ℕ
line_bytes M = 5 + 5 * length (concretes M)

-- the line call (M 13.3): 18 where the function is absent, 21 where it has not two arguments, 22 where there is no such line, 23 where the buffer is too short
unfoldable pub chart_in : ℕ → ℕ → ℕ → Model → Answer (List ℕ)
chart_in buffer f k M =
    require (ltb f M.functions) numbers.absent
    (require (eqb (M.arity f) 2) numbers.not_binary
    (require (leb k (length (concretes M))) numbers.no_line
    (require (leb (line_bytes M) buffer) numbers.short_line (gives (chart_line M f k)))))

unfoldable pub chart_call : List ℕ → ℕ → ℕ → ℕ → ℕ → Answer (List ℕ)
chart_call b scratch buffer f k = with_scratch b scratch (chart_in buffer f k)

unfoldable pub line_on : Answer (List ℕ) → List ℕ → List ℕ
line_on (gives line) buffer = line ++ drop (length line) buffer
line_on (refuses number values) buffer = buffer

-- the buffer: the line, and behind it what was there; as it was after any refusal (M 13.3)
unfoldable pub buffer_after : List ℕ → ℕ → List ℕ → ℕ → ℕ → List ℕ
buffer_after b scratch buffer f k = line_on (chart_call b scratch (length buffer) f k) buffer
