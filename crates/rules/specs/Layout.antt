-- The bundle (M 2 and 3): the directory, the records, the rule of each as a test that computes, and opening.
-- Assumes nothing.
use Rattle.std.specs.Prelude.{ℕ, zero, suc, ◌+◌, ◌*◌, ◌/◌, ◌%◌, Bool, true, false, cond, not, ◌&&◌, ◌||◌, List, [], ◌∷◌, ◌++◌, leb, ltb, eqb, length, take, drop, replicate}
use Rattle.std.specs.Bool.{beq}
use Rattle.std.proofs.Math.Option.{Option, none, some}
use Rattle.rules.specs.Numbers as numbers
use Rattle.rules.specs.Bounded.{upto, sum, every, any, first, matching}
use Rattle.rules.specs.Bytes.{byte, word, part}

-- A call's answer: what it gives, or the number by which it refuses (`Numbers`), with the values that are named beside it (M 11).
pub data Answer (A : Type 0) : Type 0 where
  gives : A → Answer A
  refuses : ℕ → List ℕ → Answer A

-- the limits (M 2.3)
abbrev pub max_classes : ℕ
max_classes = 128

abbrev pub max_functions : ℕ
max_functions = 64

abbrev pub max_signatures : ℕ
max_signatures = 256

abbrev pub max_methods : ℕ
max_methods = 512

abbrev pub places : ℕ
places = 3

-- The six sections of the directory, in its order, and the bytes of a record of each.
abbrev pub class_section : ℕ
class_section = 0

abbrev pub parent_section : ℕ
parent_section = 1

abbrev pub function_section : ℕ
function_section = 2

abbrev pub signature_section : ℕ
signature_section = 3

abbrev pub method_section : ℕ
method_section = 4

abbrev pub code_section : ℕ
code_section = 5

abbrev pub class_bytes : ℕ
class_bytes = 6

abbrev pub signature_bytes : ℕ
signature_bytes = 2 + places

abbrev pub method_bytes : ℕ
method_bytes = 6 + 2 * places

-- the directory's entry for section k: its place and its length (M 2.2)
unfoldable pub offset : List ℕ → ℕ → ℕ
offset b k = word b (4 * k)

unfoldable pub extent : List ℕ → ℕ → ℕ
extent b k = word b (4 * k + 2)

unfoldable pub section_end : List ℕ → ℕ → ℕ
section_end b k = offset b k + extent b k

-- number 1 (M 2.1)
unfoldable pub size_rule : List ℕ → Bool
size_rule b = leb 24 (length b) && leb (length b) 65535

-- of number 2, the chain: the sections stand one behind the other, from the directory to the end of the bundle (M 2.2)
unfoldable pub chain_rule : List ℕ → Bool
chain_rule b =
    eqb (offset b class_section) 24
    && every (λ k. eqb (offset b (suc k)) (section_end b k)) (upto code_section)
    && eqb (section_end b code_section) (length b)

-- of number 2, the lengths: sections have whole records and code whole instructions, and code has methods (M 3.1)
unfoldable pub whole_rule : List ℕ → Bool
whole_rule b =
    eqb (extent b class_section % class_bytes) 0
    && eqb (extent b signature_section % signature_bytes) 0
    && eqb (extent b method_section % method_bytes) 0
    && eqb (extent b code_section % 2) 0
    && (ltb 0 (extent b method_section) || eqb (extent b code_section) 0)

unfoldable pub class_count : List ℕ → ℕ
class_count b = extent b class_section / class_bytes

unfoldable pub function_count : List ℕ → ℕ
function_count b = extent b function_section

unfoldable pub signature_count : List ℕ → ℕ
signature_count b = extent b signature_section / signature_bytes

unfoldable pub method_count : List ℕ → ℕ
method_count b = extent b method_section / method_bytes

-- number 3 (M 2.3)
unfoldable pub limit_rule : List ℕ → Bool
limit_rule b =
    ltb 0 (class_count b)
    && leb (class_count b) max_classes
    && leb (function_count b) max_functions
    && leb (signature_count b) max_signatures
    && leb (method_count b) max_methods

-- Lists of parents, and bodies, stand one behind the other and fill their section (M 2.4, 2.7). The list of record k, of n, lies within its section, begins where
-- those before it end, and ends the section where k is the last: bytes left over are the last record's fault (M 3.2).
unfoldable pub in_sequence : ℕ → ℕ → ℕ → ℕ → ℕ → ℕ → Bool
in_sequence start size before n end k =
    eqb start before && leb (start + size) end && (ltb (suc k) n || eqb (start + size) end)

-- those before it end where their lengths add up to
abbrev pub sequence_rule : (ℕ → ℕ) → (ℕ → ℕ) → ℕ → ℕ → ℕ → Bool
sequence_rule start size n end k = in_sequence (start k) (size k) (sum size k) n end k

-- Of a tuple the first n places are used: these hold classes that are there, and the rest hold 0 (M 2.9).
unfoldable pub tuple_rule : ℕ → ℕ → List ℕ → Bool
tuple_rule classes n tuple = every (λ c. ltb c classes) (take n tuple) && every (λ c. eqb c 0) (drop n tuple)

-- the same of place i alone, which holds x
unfoldable pub place_rule : ℕ → ℕ → ℕ → ℕ → Bool
place_rule classes n i x = cond (ltb i n) (ltb x classes) (eqb x 0)

-- the class record (M 2.4)
unfoldable pub class_at : List ℕ → ℕ → ℕ
class_at b c = offset b class_section + class_bytes * c

unfoldable pub kind_of : List ℕ → ℕ → ℕ
kind_of b c = byte b (class_at b c)

unfoldable pub list_offset : List ℕ → ℕ → ℕ
list_offset b c = word b (class_at b c + 2)

unfoldable pub list_length : List ℕ → ℕ → ℕ
list_length b c = word b (class_at b c + 4)

unfoldable pub parents_of : List ℕ → ℕ → List ℕ
parents_of b c = part b (offset b parent_section + list_offset b c) (list_length b c)

-- each element of a list is above the one before it, which the first argument gives
unfoldable pub rises_above : ℕ → List ℕ → Bool
rises_above x [] = true
rises_above x (y ∷ ys) = ltb x y && rises_above y ys

unfoldable pub rises : List ℕ → Bool
rises [] = true
rises (x ∷ xs) = rises_above x xs

-- number 4: kind, filler and list of a class. Parents are lower than their class and rise; class 0 alone has none (M 2.4)
unfoldable pub class_rule : List ℕ → ℕ → Bool
class_rule b c =
    leb (kind_of b c) 1
    && eqb (byte b (class_at b c + 1)) 0
    && sequence_rule (list_offset b) (list_length b) (class_count b) (extent b parent_section) c
    && every (λ p. ltb p c) (parents_of b c)
    && rises (parents_of b c)
    && beq (eqb c 0) (eqb (list_length b c) 0)

-- the function record, and number 5 (M 2.5)
unfoldable pub arity_of : List ℕ → ℕ → ℕ
arity_of b f = byte b (offset b function_section + f)

unfoldable pub function_rule : List ℕ → ℕ → Bool
function_rule b f = leb (arity_of b f) places

-- the signature record, and number 6 (M 2.6)
unfoldable pub signature_at : List ℕ → ℕ → ℕ
signature_at b s = offset b signature_section + signature_bytes * s

unfoldable pub sig_function_of : List ℕ → ℕ → ℕ
sig_function_of b s = byte b (signature_at b s)

-- where its places begin
abbrev pub sig_tuple_at : List ℕ → ℕ → ℕ
sig_tuple_at b s = signature_at b s + 1

unfoldable pub sig_tuple_of : List ℕ → ℕ → List ℕ
sig_tuple_of b s = part b (sig_tuple_at b s) places

unfoldable pub sig_result_of : List ℕ → ℕ → ℕ
sig_result_of b s = byte b (signature_at b s + (1 + places))

unfoldable pub signature_rule : List ℕ → ℕ → Bool
signature_rule b s =
    ltb (sig_function_of b s) (function_count b)
    && tuple_rule (class_count b) (arity_of b (sig_function_of b s)) (sig_tuple_of b s)
    && ltb (sig_result_of b s) (class_count b)

-- the method record (M 2.7)
unfoldable pub method_at : List ℕ → ℕ → ℕ
method_at b m = offset b method_section + method_bytes * m

unfoldable pub function_of : List ℕ → ℕ → ℕ
function_of b m = byte b (method_at b m)

-- where its specialisers and its declared classes begin
abbrev pub specialiser_tuple_at : List ℕ → ℕ → ℕ
specialiser_tuple_at b m = method_at b m + 1

abbrev pub declared_tuple_at : List ℕ → ℕ → ℕ
declared_tuple_at b m = method_at b m + (1 + places)

unfoldable pub specialiser_tuple_of : List ℕ → ℕ → List ℕ
specialiser_tuple_of b m = part b (specialiser_tuple_at b m) places

unfoldable pub declared_tuple_of : List ℕ → ℕ → List ℕ
declared_tuple_of b m = part b (declared_tuple_at b m) places

unfoldable pub result_of : List ℕ → ℕ → ℕ
result_of b m = byte b (method_at b m + (1 + 2 * places))

unfoldable pub body_offset : List ℕ → ℕ → ℕ
body_offset b m = word b (method_at b m + (2 + 2 * places))

unfoldable pub body_length : List ℕ → ℕ → ℕ
body_length b m = word b (method_at b m + (4 + 2 * places))

-- where the body begins within the bundle
abbrev pub code_at : List ℕ → ℕ → ℕ
code_at b m = offset b code_section + body_offset b m

unfoldable pub code_of : List ℕ → ℕ → List ℕ
code_of b m = part b (code_at b m) (body_length b m)

-- number 7: what a method names is there, and its body stands in its row, of an even length within the limits (M 2.7, 2.9)
unfoldable pub method_rule : List ℕ → ℕ → Bool
method_rule b m =
    ltb (function_of b m) (function_count b)
    && tuple_rule (class_count b) (arity_of b (function_of b m)) (specialiser_tuple_of b m)
    && tuple_rule (class_count b) (arity_of b (function_of b m)) (declared_tuple_of b m)
    && ltb (result_of b m) (class_count b)
    && sequence_rule (body_offset b) (body_length b) (method_count b) (extent b code_section) m
    && leb 2 (body_length b m)
    && leb (body_length b m) 128
    && eqb (body_length b m % 2) 0

-- Twins: methods of a function with the same specialisers (M 2.9). Unused places are 0 in both by the rule before.
unfoldable pub twins : List ℕ → ℕ → ℕ → Bool
twins b m n = eqb (function_of b m) (function_of b n) && matching eqb (specialiser_tuple_of b m) (specialiser_tuple_of b n)

-- number 8: a method has no twin before it
unfoldable pub twin_rule : List ℕ → ℕ → Bool
twin_rule b m = not (any (λ n. twins b m n) (upto m))

-- An operation, and an operand that names something there; that of RESEND is 0 (M 2.8). The numbers are what there is of each.
unfoldable pub instruction_rule : ℕ → ℕ → ℕ → ℕ → ℕ → Bool
instruction_rule arguments classes functions zero operand = ltb operand arguments
instruction_rule arguments classes functions (suc zero) operand = ltb operand classes
instruction_rule arguments classes functions (suc (suc zero)) operand = ltb operand functions
instruction_rule arguments classes functions (suc (suc (suc zero))) operand = eqb operand 0
instruction_rule arguments classes functions (suc (suc (suc (suc n)))) operand = false

-- a test on each instruction of a body: its two bytes
unfoldable pub every_pair : (ℕ → ℕ → Bool) → List ℕ → Bool
every_pair p [] = true
every_pair p (x ∷ []) = false
every_pair p (x ∷ y ∷ rest) = p x y && every_pair p rest

-- number 9: every instruction of the method passes
unfoldable pub code_rule : List ℕ → ℕ → Bool
code_rule b m = every_pair (instruction_rule (arity_of b (function_of b m)) (class_count b) (function_count b)) (code_of b m)

-- A rule on the whole bundle: broken, it is the number alone.
unfoldable pub require : {A : Type 0} → Bool → ℕ → Answer A → Answer A
require true number rest = rest
require false number rest = refuses number []

-- a rule on records: all keep it, or the lowest that breaks it is named
unfoldable pub lowest : (ℕ → Bool) → ℕ → Option ℕ
lowest rule n = first (λ k. not (rule k)) (upto n)

unfoldable pub require_each : {A : Type 0} → Option ℕ → ℕ → Answer A → Answer A
require_each none number rest = rest
require_each (some k) number rest = refuses number (k ∷ [])

-- Opening: the rules in the order of their numbers, each decided for the whole bundle before the next (M 3.1). A bundle that opens gives its four counts.
unfoldable pub opening : List ℕ → Answer (List ℕ)
opening b =
    require (size_rule b) numbers.bad_length
    (require (chain_rule b && whole_rule b) numbers.bad_directory
    (require (limit_rule b) numbers.bad_counts
    (require_each (lowest (class_rule b) (class_count b)) numbers.bad_class
    (require_each (lowest (function_rule b) (function_count b)) numbers.bad_function
    (require_each (lowest (signature_rule b) (signature_count b)) numbers.bad_signature
    (require_each (lowest (method_rule b) (method_count b)) numbers.bad_method
    (require_each (lowest (twin_rule b) (method_count b)) numbers.twin_method
    (require_each (lowest (code_rule b) (method_count b)) numbers.bad_code
    (gives (class_count b ∷ function_count b ∷ signature_count b ∷ method_count b ∷ []))))))))))

-- The tuple of `places` numbers for a list of argument classes: unused places are 0.
unfoldable pub padded : List ℕ → List ℕ
padded args = take places (args ++ replicate places 0)
