-- The cases that are marked P, as one table, and further worked cases beside them: each entry point, and each number that a call can give.
-- Assumes nothing.
use Rattle.std.specs.Prelude.{ℕ, ◌+◌, ◌*◌, ◌≡◌, true, false, List, [], ◌∷◌, ◌++◌, map, eqb, length, replicate}
use Prim.Native.String.{String}
use Rattle.rules.specs.Bounded.{upto, any}
use Rattle.rules.specs.Layout.{Answer, gives, refuses}
use Rattle.rules.specs.Model.{model_of}
use Rattle.rules.specs.Subclass.{Ancestry, same, heir, neither}
use Rattle.rules.specs.Types.{Static}
use Rattle.rules.specs.Machine.{Ending, value, spent, deep, stopped, run}
use Rattle.rules.specs.Calls.{row_bytes, opening_call, ancestry_call, lookup_call, send_type_call, check_call, witness_call, body_view_call, body_view_start, run_call, row_after, Match}
use Rattle.rules.specs.Scratch.{scratch_bytes, matrix_byte}
use Rattle.rules.specs.Bits.{bit}
use Rattle.rules.specs.Ascii.{ascii}
use Rattle.rules.specs.Chart.{chart_call, buffer_after}
use Rattle.rules.specs.Rough.{Rough, one, may_fail, several, rough_call}
use Rattle.rules.specs.Samples.{chart3, chart4, chart5, loop, one_class, abstract_argument, narrow_declared, wide_result, two_values, abstract_new, no_licence, loose_result, twenty_three_bytes, directory_gap, empty_sections, own_parent, four_arguments, absent_result, empty_body, twin_methods, unknown_operation, no_method, three_faults, three_rivals, several_broken, upper_classes, exact_match, resend, resend_loop, resend_operand, no_overridden, ambiguous_resend, narrow_target}

-- A call on a bundle, with what it comes to. Scratch, row and buffer are large enough, but for `checks_in`, `types_in` and `charts_in`, which give their length.
pub data Case : Type 0 where
  opens : List ℕ → Answer (List ℕ) → Case
  views : List ℕ → ℕ → List ℕ → ℕ → Case
  asks : List ℕ → ℕ → ℕ → Answer Ancestry → Case
  finds : List ℕ → ℕ → List ℕ → Answer Match → Case
  checks : List ℕ → Answer (Unit {0}) → Case
  checks_in : List ℕ → ℕ → Answer (Unit {0}) → Case
  fills : List ℕ → List ℕ → Case
  witnesses : List ℕ → ℕ → List ℕ → Answer (Unit {0}) → Case
  types : List ℕ → ℕ → List ℕ → List ℕ → Case
  types_in : List ℕ → ℕ → ℕ → List ℕ → Answer Static → Case
  runs : List ℕ → ℕ → List ℕ → ℕ → Ending → ℕ → Case
  comes_to : List ℕ → ℕ → List ℕ → ℕ → List ℕ → Case
  charts : List ℕ → ℕ → ℕ → String → Case
  charts_in : List ℕ → ℕ → ℕ → ℕ → Answer (List ℕ) → Case
  roughly : List ℕ → ℕ → List ℕ → Answer Rough → Case

-- the row of a type that has these classes
unfoldable pub row_of : List ℕ → List ℕ
row_of classes = map (λ k. bit (any (eqb k) classes)) (upto row_bytes)

-- the rows of classes that are under none above 7, by the first byte of each
unfoldable pub matrix_of : List ℕ → List ℕ
matrix_of [] = []
matrix_of (x ∷ xs) = x ∷ replicate 15 0 ++ matrix_of xs

-- The resends that a run comes to are compared by the methods that resend. A send type is compared by its whole row, and a line of a chart by its whole buffer, of
-- which two bytes more are lent than it takes; all are 9 before the call. The matrix is compared by the rows of all classes, and by that of the first number that
-- is none.
abbrev pub Stands : Case → Type 0
Stands (opens b answer) = opening_call b ≡ answer
Stands (views b m code start) = (body_view_call b m ≡ gives code) × (body_view_start b m ≡ start)
Stands (asks b a c answer) = ancestry_call b scratch_bytes a c ≡ answer
Stands (finds b f tuple answer) = lookup_call b scratch_bytes f tuple ≡ answer
Stands (checks b answer) = check_call b scratch_bytes ≡ answer
Stands (checks_in b n answer) = check_call b n ≡ answer
Stands (fills b rows) = map (matrix_byte (model_of b)) (upto (16 * length rows + 16)) ≡ matrix_of rows ++ replicate 16 0
Stands (witnesses b s tuple answer) = witness_call b scratch_bytes s tuple ≡ answer
Stands (types b f tuple classes) =
    row_after b scratch_bytes (replicate (row_bytes + 2) 9) f tuple ≡ row_of classes ++ 9 ∷ 9 ∷ []
Stands (types_in b n f tuple answer) = send_type_call b scratch_bytes n f tuple ≡ answer
Stands (runs b f tuple count e steps) = run_call b scratch_bytes f tuple count ≡ gives (record { ending = e; steps = steps })
Stands (comes_to b f args count methods) = map (λ x. x.method) (run (model_of b) f args count).resends ≡ methods
Stands (charts b f k line) = buffer_after b scratch_bytes (replicate (length (ascii line) + 2) 9) f k ≡ ascii line ++ 9 ∷ 9 ∷ []
Stands (charts_in b n f k answer) = chart_call b scratch_bytes n f k ≡ answer
Stands (roughly b f tuple answer) = rough_call b scratch_bytes f tuple ≡ answer

abbrev pub AllStand : List Case → Type 0
AllStand [] = Unit {0}
AllStand (c ∷ cs) = Stands c × AllStand cs

-- a method that is found, exact or not
abbrev pub exactly : ℕ → Answer Match
exactly m = gives (record { method = m; is_exact = true })

abbrev pub otherwise : ℕ → Answer Match
otherwise m = gives (record { method = m; is_exact = false })

-- P 1 to P 11, in their order
abbrev pub marked : List Case
marked =
    finds chart3 0 (1 ∷ 3 ∷ 0 ∷ []) (exactly 2)
    ∷ finds chart3 0 (1 ∷ 4 ∷ 0 ∷ []) (exactly 0)
    ∷ finds chart3 0 (2 ∷ 3 ∷ 0 ∷ []) (exactly 1)
    ∷ finds chart3 0 (2 ∷ 4 ∷ 0 ∷ []) (refuses 11 (0 ∷ 2 ∷ 4 ∷ 0 ∷ 1 ∷ 0 ∷ []))
    ∷ finds chart4 0 (2 ∷ 4 ∷ 0 ∷ []) (exactly 3)
    ∷ checks chart4 (gives tt)
    ∷ runs chart4 0 (2 ∷ 4 ∷ 0 ∷ []) 1 (value 7) 1
    ∷ runs chart4 0 (2 ∷ 4 ∷ 0 ∷ []) 0 spent 0
    ∷ types chart5 0 (2 ∷ 4 ∷ 0 ∷ []) (0 ∷ 5 ∷ 7 ∷ [])
    ∷ runs loop 0 (0 ∷ 0 ∷ 0 ∷ []) 31 spent 31
    ∷ runs loop 0 (0 ∷ 0 ∷ 0 ∷ []) 32 deep 31
    ∷ []

-- Further worked cases: the charts again, one class alone, each entry point, and one bundle for each number.
abbrev pub worked : List Case
worked =
    opens chart3 (gives (8 ∷ 1 ∷ 1 ∷ 3 ∷ []))
    ∷ checks chart3 (refuses 11 (0 ∷ 0 ∷ 2 ∷ 4 ∷ 0 ∷ 1 ∷ 0 ∷ []))
    ∷ views chart3 0 (1 ∷ 6 ∷ []) 121
    ∷ views chart3 2 (1 ∷ 6 ∷ []) 125
    ∷ asks chart3 2 2 (gives same)
    ∷ asks chart3 2 1 (gives heir)
    ∷ asks chart3 1 2 (gives neither)
    ∷ asks chart3 2 3 (gives neither)
    ∷ asks chart3 8 8 (refuses 18 [])
    ∷ finds exact_match 0 (2 ∷ 2 ∷ 0 ∷ []) (exactly 1)
    ∷ finds exact_match 0 (1 ∷ 2 ∷ 0 ∷ []) (otherwise 0)
    ∷ finds exact_match 0 (2 ∷ 1 ∷ 0 ∷ []) (otherwise 0)
    ∷ finds exact_match 0 (3 ∷ 3 ∷ 0 ∷ []) (otherwise 1)
    ∷ finds exact_match 1 (0 ∷ 0 ∷ 0 ∷ []) (exactly 2)
    ∷ witnesses chart4 0 (2 ∷ 4 ∷ 0 ∷ []) (gives tt)
    ∷ witnesses chart3 0 (2 ∷ 4 ∷ 0 ∷ []) (refuses 11 (0 ∷ 0 ∷ 2 ∷ 4 ∷ 0 ∷ 1 ∷ 0 ∷ []))
    ∷ checks one_class (gives tt)
    ∷ checks abstract_argument (gives tt)
    ∷ opens twenty_three_bytes (refuses 1 [])
    ∷ opens directory_gap (refuses 2 [])
    ∷ opens empty_sections (refuses 3 [])
    ∷ opens own_parent (refuses 4 (1 ∷ []))
    ∷ opens four_arguments (refuses 5 (1 ∷ []))
    ∷ opens absent_result (refuses 6 (0 ∷ []))
    ∷ opens empty_body (refuses 7 (0 ∷ []))
    ∷ opens twin_methods (refuses 8 (1 ∷ []))
    ∷ opens unknown_operation (refuses 9 (0 ∷ []))
    ∷ opens resend_operand (refuses 9 (1 ∷ []))
    ∷ checks no_method (refuses 10 (0 ∷ 0 ∷ 0 ∷ 0 ∷ 0 ∷ []))
    ∷ checks three_faults (refuses 10 (0 ∷ 0 ∷ 0 ∷ 0 ∷ 0 ∷ []))
    ∷ finds no_method 0 (0 ∷ 0 ∷ 0 ∷ []) (refuses 10 (0 ∷ 0 ∷ 0 ∷ 0 ∷ []))
    ∷ checks three_rivals (refuses 11 (0 ∷ 0 ∷ 5 ∷ 0 ∷ 0 ∷ 3 ∷ 1 ∷ []))
    ∷ finds three_rivals 0 (5 ∷ 0 ∷ 0 ∷ []) (refuses 11 (0 ∷ 5 ∷ 0 ∷ 0 ∷ 3 ∷ 1 ∷ []))
    ∷ witnesses three_rivals 0 (5 ∷ 0 ∷ 0 ∷ []) (refuses 11 (0 ∷ 0 ∷ 5 ∷ 0 ∷ 0 ∷ 3 ∷ 1 ∷ []))
    ∷ checks narrow_declared (refuses 12 (0 ∷ 0 ∷ 0 ∷ 0 ∷ 0 ∷ 0 ∷ []))
    ∷ checks several_broken (refuses 12 (0 ∷ 0 ∷ 1 ∷ 3 ∷ 0 ∷ 3 ∷ []))
    ∷ checks wide_result (refuses 13 (0 ∷ 0 ∷ 0 ∷ 0 ∷ 0 ∷ 0 ∷ []))
    ∷ checks two_values (refuses 14 (0 ∷ 2 ∷ []))
    ∷ checks abstract_new (refuses 15 (0 ∷ 0 ∷ []))
    ∷ checks no_licence (refuses 16 (0 ∷ 1 ∷ []))
    ∷ checks loose_result (refuses 17 (0 ∷ 1 ∷ []))
    ∷ checks no_overridden (refuses 25 (0 ∷ 0 ∷ []))
    ∷ checks ambiguous_resend (refuses 26 (2 ∷ 0 ∷ []))
    ∷ checks narrow_target (refuses 27 (1 ∷ 0 ∷ []))
    ∷ checks resend (gives tt)
    ∷ checks resend_loop (gives tt)
    ∷ runs three_rivals 0 (5 ∷ 0 ∷ 0 ∷ []) 9 (stopped 11 (0 ∷ 5 ∷ 0 ∷ 0 ∷ 3 ∷ 1 ∷ [])) 0
    ∷ runs narrow_declared 0 (0 ∷ 0 ∷ 0 ∷ []) 9 (stopped 12 (0 ∷ 0 ∷ 0 ∷ 0 ∷ 0 ∷ [])) 0
    ∷ runs two_values 0 (0 ∷ 0 ∷ 0 ∷ []) 9 (stopped 14 (0 ∷ 2 ∷ [])) 2
    ∷ runs abstract_new 0 (0 ∷ 0 ∷ 0 ∷ []) 9 (stopped 15 (0 ∷ 0 ∷ [])) 0
    ∷ runs no_overridden 0 (1 ∷ 0 ∷ 0 ∷ []) 9 (stopped 25 (0 ∷ 0 ∷ [])) 1
    ∷ runs ambiguous_resend 0 (2 ∷ 4 ∷ 0 ∷ []) 9 (stopped 26 (2 ∷ 0 ∷ [])) 0
    ∷ runs narrow_target 0 (2 ∷ 0 ∷ 0 ∷ []) 9 (stopped 27 (1 ∷ 0 ∷ [])) 0
    ∷ runs resend 0 (2 ∷ 3 ∷ 0 ∷ []) 9 (value 6) 4
    ∷ runs resend 0 (2 ∷ 4 ∷ 0 ∷ []) 9 (value 6) 7
    ∷ runs resend 0 (2 ∷ 4 ∷ 0 ∷ []) 1 spent 1
    ∷ comes_to resend 0 (2 ∷ 4 ∷ []) 0 (1 ∷ [])
    ∷ comes_to resend 0 (2 ∷ 4 ∷ []) 1 (1 ∷ 0 ∷ [])
    ∷ comes_to resend 0 (2 ∷ 4 ∷ []) 9 (1 ∷ 0 ∷ [])
    ∷ runs resend_loop 0 (0 ∷ 0 ∷ 0 ∷ []) 47 spent 47
    ∷ runs resend_loop 0 (0 ∷ 0 ∷ 0 ∷ []) 48 deep 47
    ∷ types_in no_licence row_bytes 1 (0 ∷ 0 ∷ 0 ∷ []) (refuses 16 [])
    ∷ finds chart3 1 (1 ∷ 3 ∷ 0 ∷ []) (refuses 18 [])
    ∷ finds chart3 0 (1 ∷ 3 ∷ 1 ∷ []) (refuses 18 [])
    ∷ checks_in chart4 2047 (refuses 19 [])
    ∷ checks_in chart4 2048 (gives tt)
    ∷ fills chart3 (1 ∷ 3 ∷ 7 ∷ 9 ∷ 25 ∷ 33 ∷ 97 ∷ 161 ∷ [])
    ∷ types_in chart5 127 0 (2 ∷ 4 ∷ 0 ∷ []) (refuses 20 [])
    ∷ charts chart3 0 0 "        1    2    3    4    6    7\n"
    ∷ charts chart3 0 1 "   1    -    -    2    0    -    -\n"
    ∷ charts chart3 0 2 "   2    -    -    1    *    -    -\n"
    ∷ charts chart4 0 2 "   2    -    -    1    3    -    -\n"
    ∷ charts_in chart3 35 1 0 (refuses 18 [])
    ∷ charts_in abstract_argument 10 0 0 (refuses 21 [])
    ∷ charts_in chart3 35 0 7 (refuses 22 [])
    ∷ charts_in chart3 34 0 6 (refuses 23 [])
    ∷ roughly upper_classes 0 (2 ∷ 0 ∷ 0 ∷ []) (gives (one 1))
    ∷ roughly upper_classes 0 (1 ∷ 0 ∷ 0 ∷ []) (gives several)
    ∷ roughly upper_classes 0 (0 ∷ 0 ∷ 0 ∷ []) (gives may_fail)
    ∷ roughly upper_classes 0 (8 ∷ 0 ∷ 0 ∷ []) (refuses 18 [])
    ∷ roughly upper_classes 0 (7 ∷ 0 ∷ 0 ∷ []) (refuses 24 [])
    ∷ roughly chart3 0 (1 ∷ 3 ∷ 0 ∷ []) (gives may_fail)
    ∷ roughly chart4 0 (1 ∷ 3 ∷ 0 ∷ []) (gives several)
    ∷ roughly chart4 0 (2 ∷ 4 ∷ 0 ∷ []) (gives (one 3))
    ∷ roughly loop 0 (0 ∷ 0 ∷ 0 ∷ []) (gives (one 0))
    ∷ []
