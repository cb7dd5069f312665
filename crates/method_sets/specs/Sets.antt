-- Sets of methods as words of bits, by the positions of the methods in an order, and tables of such sets.
-- Assumes nothing.
use Rattle.std.specs.Prelude.{ℕ, ◌+◌, ◌-◌, ◌*◌, ◌/◌, ◌%◌, ◌<◌, ◌≤◌, ◌≡◌, Bool, true, false, ◌&&◌, List, eqb, ltb, length, get_or, Option, Some, None}
use Rattle.rules.specs.Bounded.{sum}
use Rattle.rules.specs.Layout.{places, max_classes, max_methods}
use Rattle.rules.specs.Model.{Model}
use Rattle.rules.specs.Bits.{bit_at, in_set}
use Rattle.rules.specs.Scratch.{class_under, entry_at}

-- the words of a set, and of a table of sets
abbrev pub set_words : ℕ
set_words = max_methods / 64

abbrev pub table_words : ℕ
table_words = places * (max_classes * set_words)

-- where a table has the set of a place and a class
abbrev pub row_at : ℕ → ℕ → ℕ
row_at place k = max_classes * set_words * place + set_words * k

-- the set that begins at a word has the positions that pass a test and no others, so its words are known
abbrev pub SetAt : List ℕ → ℕ → (ℕ → Bool) → Type 0
SetAt words at test = (i : ℕ) → i < max_methods → in_set words at i ≡ test i

-- and one of its words, those from a position on
abbrev pub WordOf : (ℕ → Bool) → ℕ → ℕ → Type 0
WordOf test start bits = (j : ℕ) → j < 64 → bit_at bits j ≡ test (start + j)

-- an answer is true exactly where a statement holds
abbrev pub Decides : Bool → Type 0 → Type 0
Decides r P = (r ≡ true → P) × (P → r ≡ true)

-- every position of the set is in the one of the table
abbrev pub Within : List ℕ → List ℕ → ℕ → Type 0
Within set table at = (i : ℕ) → i < max_methods → in_set set 0 i ≡ true → in_set table at i ≡ true

-- of the positions of the set, two sets have the same, and two of a table
abbrev pub SamePositions : List ℕ → List ℕ → ℕ → List ℕ → ℕ → Type 0
SamePositions set xs a ys b = (i : ℕ) → i < max_methods → in_set set 0 i ≡ true → in_set xs a i ≡ in_set ys b i

abbrev pub SameWithin : List ℕ → List ℕ → ℕ → ℕ → Type 0
SameWithin set table a b = SamePositions set table a table b

-- the first position of the set, or the limit of methods where it has none
pub record First (set : List ℕ) (r : ℕ) : Type 0 where
  pub limit : r ≤ max_methods
  pub member : r < max_methods → in_set set 0 r ≡ true
  pub before : (i : ℕ) → i < r → in_set set 0 i ≡ false

-- as an option
abbrev pub FirstIn : List ℕ → Option ℕ → Type 0
FirstIn set None = First set max_methods
FirstIn set (Some r) = (r < max_methods) × First set r

-- A method with its weight above its number: the sum of its specialisers.
unfoldable pub weighed : Model → ℕ → ℕ
weighed M m = sum (λ p. get_or (M.specialisers m) p 0) places * max_methods + m

-- the method at a position of an order
unfoldable pub method_at : List ℕ → ℕ → ℕ
method_at order i = get_or order i 0 % max_methods

-- The first n methods in their order: each of the first n numbers is one of them with its weight, each of them is there, the heaviest stands first, and what
-- follows is 0. There is one such list.
pub record OrderedTo (M : Model) (n : ℕ) (order : List ℕ) : Type 0 where
  pub long : length order ≡ max_methods
  pub methods : (i : ℕ) → i < n → method_at order i < n
  pub weights : (i : ℕ) → i < n → get_or order i 0 ≡ weighed M (method_at order i)
  pub positions : (m : ℕ) → m < n → (i : ℕ) × (i < n) × (method_at order i ≡ m)
  pub falling : (i j : ℕ) → i < j → j < n → get_or order j 0 ≤ get_or order i 0
  pub rest : (i : ℕ) → n ≤ i → get_or order i 0 ≡ 0

abbrev pub Ordered : Model → List ℕ → Type 0
Ordered M = OrderedTo M M.methods

-- From position p on, the numbers before position n have moved by one; they are smaller than one that is to stand at p.
pub record Moved (old new : List ℕ) (n own p : ℕ) : Type 0 where
  pub within : p ≤ n
  pub same : length new ≡ length old
  pub before : (i : ℕ) → i < p → get_or new i 0 ≡ get_or old i 0
  pub behind : (i : ℕ) → p < i → i ≤ n → (get_or new i 0 ≡ get_or old (i - 1) 0) × (get_or old (i - 1) 0 < own)
  pub later : (i : ℕ) → n < i → get_or new i 0 ≡ get_or old i 0

-- It stands there, and the number before it is not smaller.
pub record Inserted (old new : List ℕ) (n own : ℕ) : Type 0 where
  pub position : ℕ
  pub moved : Moved old new n own position
  pub here : get_or new position 0 ≡ own
  pub edge : 0 < position → own ≤ get_or old (position - 1) 0

-- the class of a method at a place: its declared class, or its specialiser
unfoldable pub class_of : Bool → Model → ℕ → ℕ → ℕ
class_of true M m place = get_or (M.declared m) place 0
class_of false M m place = get_or (M.specialisers m) place 0

-- those of all methods, in their order
pub record InOrder (stated : Bool) (M : Model) (order : List ℕ) (place : ℕ) (column : List ℕ) : Type 0 where
  pub long : length column ≡ M.methods
  pub classes : (i : ℕ) → i < M.methods → (get_or column i 0 ≡ class_of stated M (method_at order i) place) × (get_or column i 0 < M.classes)

-- a column has a class at the position, which by the entries of a scratch is above class k
unfoldable pub column_above : List ℕ → List ℕ → ℕ → ℕ → Bool
column_above scratch column k i = ltb i (length column) && entry_at scratch k (get_or column i 0)

-- the first n words of a place's sets, class by class, and what stands before and behind them is as it was
pub record Rows (scratch column : List ℕ) (place n : ℕ) (old new : List ℕ) : Type 0 where
  pub same : length new ≡ length old
  pub before : (w : ℕ) → w < row_at place 0 → get_or new w 0 ≡ get_or old w 0
  pub told : (w : ℕ) → w < n → WordOf (column_above scratch column (w / set_words)) (64 * (w % set_words)) (get_or new (row_at place 0 + w) 0)
  pub behind : (w : ℕ) → row_at place 0 + n ≤ w → get_or new w 0 ≡ get_or old w 0

-- the order has a method at the position, of function f
unfoldable pub method_of : Model → List ℕ → ℕ → ℕ → Bool
method_of M order f i = ltb i M.methods && eqb (M.function (method_at order i)) f

-- the order has a method at the position, whose class at a place is above class k
unfoldable pub method_above : Bool → Model → List ℕ → ℕ → ℕ → ℕ → Bool
method_above stated M order place k i = ltb i M.methods && class_under M k (class_of stated M (method_at order i) place)

-- The sets of the first places: for each class the methods whose class at the place is above it, and none for a number that is no class. What follows is 0.
pub record TabledTo (stated : Bool) (M : Model) (order table : List ℕ) (n : ℕ) : Type 0 where
  pub long : length table ≡ table_words
  pub told : (place k : ℕ) → place < n → k < max_classes → SetAt table (row_at place k) (method_above stated M order place k)
  pub rest : (w : ℕ) → row_at n 0 ≤ w → get_or table w 0 ≡ 0

abbrev pub Tabled : Bool → Model → List ℕ → List ℕ → Type 0
Tabled stated M order table = TabledTo stated M order table places

-- at each place the methods whose specialiser is above that of m are all methods of the set
abbrev pub AboveAll : Model → List ℕ → List ℕ → ℕ → ℕ → Type 0
AboveAll M admits set n m = (place : ℕ) → place < n → Within set admits (row_at place (get_or (M.specialisers m) place 0))

-- m is one of the methods of the set
abbrev pub Member : Model → List ℕ → List ℕ → ℕ → Type 0
Member M order set m = (i : ℕ) × (i < M.methods) × (method_at order i ≡ m) × (in_set set 0 i ≡ true)

-- m, if it is a method, leads the set: it is one of its methods, and at least as specific as all of them
abbrev pub LedBy : Model → List ℕ → List ℕ → List ℕ → ℕ → ℕ → Type 0
LedBy M order admits set n m = m < M.methods → Member M order set m × AboveAll M admits set n m

-- no method of the set tells classes a and k apart at a place
pub record AlikeIn (admits holds set : List ℕ) (place a k : ℕ) : Type 0 where
  pub specialised : SameWithin set admits (row_at place a) (row_at place k)
  pub declared : SameWithin set holds (row_at place a) (row_at place k)

-- nor class k from one of the first tried
abbrev pub SomeAlike : List ℕ → List ℕ → List ℕ → ℕ → List ℕ → ℕ → ℕ → Type 0
SomeAlike admits holds set place tried tries k = (j : ℕ) × (j < tries) × AlikeIn admits holds set place (get_or tried j 0) k
