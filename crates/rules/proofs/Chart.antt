-- The laws of the chart's lines: how long each is, where its newline stands, and that its numbers are decimal ones.
-- Assumes nothing.
use Prim.Native.Nat.{ℕ, zero, suc, ◌+◌, ◌*◌, ◌-◌, ◌/◌, ◌%◌, ◌<◌}
use native.Mathlib.Nat.{eq-or-lt_of_le}
use native.Mathlib.Omega.{arith}
use mathlib.Core.Path.{◌≡◌, refl, sym, ap, ◌∙◌}
use mathlib.Core.Bool.{Bool, true, false, cond}
use mathlib.Core.Logic.{◌⊎◌, inl, inr}
use mathlib.Core.List.{List, [], ◌∷◌, ◌++◌}
use lib.Dec.{ltb}
use lib.ListN.{length, get_or, length-append, replicate, get_or-append}
use lib.Seq.{get_or-append_seam}
use borrow.Author.Tests.{lt-ltb, ltb-true, ltb-false}
use Rattle.rules.specs.Bounded.{every}
use Rattle.rules.specs.Decimal.{decimal}
use Rattle.rules.specs.Model.{Model}
use Rattle.rules.specs.Lookup.{Found, found, missing, ambiguous, lookup}
use Rattle.rules.specs.Chart.{concretes, digit_at, number, entry, heading, cell, columns, chart_line, line_bytes}
use Rattle.rules.proofs.Lists.{test, and_left, and_right, and_both, every_place}
use Rattle.rules.proofs.Decimal.{digits_one, digits_more}

-- each piece has four places
entry_length : (x : Found) → length (entry x) ≡ 4
unfolding entry number
entry_length (found m) = refl
entry_length missing = refl
entry_length (ambiguous m n) = refl

pub heading_length : (M : Model) (k : ℕ) → length (heading M k) ≡ 4
unfolding heading number
heading_length M zero = refl
heading_length M (suc k) = refl

pub cell_length : (M : Model) (f k c : ℕ) → length (cell M f k c) ≡ 4
unfolding cell number
cell_length M f zero c = refl
cell_length M f (suc k) c = entry_length (lookup M f (get_or (concretes M) k 0 ∷ c ∷ []))

pub columns_length : (places : ℕ → List ℕ) → ((c : ℕ) → length (places c) ≡ 4) → (cs : List ℕ) → length (columns places cs) ≡ 5 * length cs
unfolding columns
columns_length places four [] = refl
columns_length places four (c ∷ cs) = rw (length-append, four, columns_length places four cs) (omega arith)

-- a line has 5 + 5·n bytes
pub line_length_lem : (M : Model) (f k : ℕ) → length (chart_line M f k) ≡ line_bytes M
unfolding chart_line line_bytes
line_length_lem M f k = rw (length-append, length-append, heading_length, columns_length (cell M f k) (cell_length M f k)) (omega arith)

-- a byte above the newline
abbrev above : ℕ → Bool
above x = ltb 10 x

above_append : (xs ys : List ℕ) → every above xs ≡ true → every above ys ≡ true → every above (xs ++ ys) ≡ true
unfolding every
above_append [] ys a b = b
above_append (x ∷ xs) ys a b =
    and_both (above x) (every above (xs ++ ys)) (and_left (above x) (every above xs) a) (above_append xs ys (and_right (above x) (every above xs) a) b)

digit_above : (power n : ℕ) → above (digit_at power n) ≡ true
unfolding digit_at
digit_above power n = go (test (ltb n power))
  where
    go : (ltb n power ≡ true) ⊎ (ltb n power ≡ false) → ltb 10 (cond (ltb n power) 32 (48 + n / power % 10)) ≡ true
    go (inl e) = rw e refl
    go (inr e) = rw e (lt-ltb 10 (48 + n / power % 10) (omega arith))

number_above : (n : ℕ) → every above (number n) ≡ true
unfolding every number
number_above n = rw (digit_above 1000 n, digit_above 100 n, digit_above 10 n, lt-ltb 10 (48 + n % 10) (omega arith)) refl

entry_above : (x : Found) → every above (entry x) ≡ true
unfolding every entry
entry_above (found m) = number_above m
entry_above missing = refl
entry_above (ambiguous m n) = refl

heading_above : (M : Model) (k : ℕ) → every above (heading M k) ≡ true
unfolding every heading
heading_above M zero = refl
heading_above M (suc k) = number_above (get_or (concretes M) k 0)

cell_above : (M : Model) (f k c : ℕ) → every above (cell M f k c) ≡ true
unfolding cell
cell_above M f zero c = number_above c
cell_above M f (suc k) c = entry_above (lookup M f (get_or (concretes M) k 0 ∷ c ∷ []))

columns_above : (places : ℕ → List ℕ) → ((c : ℕ) → every above (places c) ≡ true) → (cs : List ℕ) → every above (columns places cs) ≡ true
unfolding every columns
columns_above places a [] = refl
columns_above places a (c ∷ cs) = above_append (places c) (columns places cs) (a c) (columns_above places a cs)

-- A line holds one newline, its last byte.
module _ (M : Model) (f k : ℕ) where
  front : List ℕ
  front = heading M k ++ columns (cell M f k) (concretes M)

  front_above : every above front ≡ true
  unfolding front
  front_above = above_append (heading M k) (columns (cell M f k) (concretes M)) (heading_above M k) (columns_above (cell M f k) (cell_above M f k) (concretes M))

  front_length : length front + 1 ≡ line_bytes M
  unfolding front line_bytes
  front_length = rw (length-append, heading_length, columns_length (cell M f k) (cell_length M f k)) (omega arith)

  front_ends : chart_line M f k ≡ front ++ (10 ∷ [])
  unfolding front chart_line
  front_ends = refl

  pub line_newline : (i : ℕ) → i < line_bytes M → get_or (chart_line M f k) i 0 ≡ 10 → i + 1 ≡ line_bytes M
  line_newline i h e = go (eq-or-lt_of_le (omega (arith, front_length)))
    where
      go : (i ≡ length front) ⊎ (i < length front) → i + 1 ≡ line_bytes M
      go (inl q) = omega (arith, front_length)
      go (inr l) =
          let same = sym (get_or-append front (10 ∷ []) 0 i l) ∙ ap (λ (xs : List ℕ). get_or xs i 0) (sym front_ends) ∙ e in
          absurd (omega (arith, ltb-true 10 (get_or front i 0) (every_place above front 0 front_above i l), same))

  pub line_ends : (i : ℕ) → i + 1 ≡ line_bytes M → get_or (chart_line M f k) i 0 ≡ 10
  line_ends i e =
      let last : i ≡ length front = omega (arith, front_length) in
      rw (front_ends, last) (get_or-append_seam front 10 [] 0)

-- blanks before a text, up to four places
abbrev pub aligned : List ℕ → List ℕ
aligned text = replicate (4 - length text) 32 ++ text

-- a number below 10,000 stands in its four places as it is printed
pub number_decimal : (n : ℕ) → n < 10000 → number n ≡ aligned (decimal n)
unfolding number digit_at decimal
number_decimal n h = go (test (ltb n 10)) (test (ltb n 100)) (test (ltb n 1000))
  where
    go : (ltb n 10 ≡ true) ⊎ (ltb n 10 ≡ false) → (ltb n 100 ≡ true) ⊎ (ltb n 100 ≡ false) → (ltb n 1000 ≡ true) ⊎ (ltb n 1000 ≡ false) → number n ≡ aligned (decimal n)
    go (inl a) b c =
        let l = ltb-true n 10 a in
        let e : n % 10 ≡ n = omega arith in
        rw (lt-ltb n 1000 (omega arith), lt-ltb n 100 (omega arith), a, digits_one 20 n (omega arith) l, e) refl
    go (inr a) (inl b) c =
        let g = ltb-false n 10 a in
        let l = ltb-true n 100 b in
        let e : n / 10 % 10 ≡ n / 10 = omega arith in
        rw (lt-ltb n 1000 (omega arith), b, a, digits_more 20 n (omega arith) g, digits_one 19 (n / 10) (omega arith) (omega arith), e) refl
    go (inr a) (inr b) (inl c) =
        let g = ltb-false n 100 b in
        let l = ltb-true n 1000 c in
        let e : n / 100 % 10 ≡ n / 10 / 10 = omega arith in
        rw (c, b, a, digits_more 20 n (omega arith) (omega arith), digits_more 19 (n / 10) (omega arith) (omega arith), digits_one 18 (n / 10 / 10) (omega arith) (omega arith), e) refl
    go (inr a) (inr b) (inr c) =
        let g = ltb-false n 1000 c in
        let e : n / 100 % 10 ≡ n / 10 / 10 % 10 = omega arith in
        let u : n / 1000 % 10 ≡ n / 10 / 10 / 10 = omega arith in
        rw (c, b, a, digits_more 20 n (omega arith) (omega arith), digits_more 19 (n / 10) (omega arith) (omega arith), digits_more 18 (n / 10 / 10) (omega arith) (omega arith), digits_one 17 (n / 10 / 10 / 10) (omega arith) (omega arith), e, u) refl
