-- A line of the chart column by column.
-- Assumes nothing.
use Prim.Native.Nat.{ℕ, zero, suc, ◌+◌, ◌*◌, ◌-◌, ◌<◌, ◌≤◌}
use native.Mathlib.Numerals.{add-one}
use native.Mathlib.Omega.{arith}
use mathlib.Core.Path.{◌≡◌, refl, sym, ap, subst, ◌∙◌}
use mathlib.Core.List.{List, [], ◌∷◌, ◌++◌, append-nil, append_assoc}
use lib.ListN.{length, get_or, take, drop, length-append, take-append-drop}
use lib.Seq.{take-suc, length-take-le}
use Rattle.rules.specs.Model.{Model}
use Rattle.rules.specs.Lookup.{lookup}
use Rattle.rules.specs.Chart.{concretes, number, entry, heading, cell, columns, chart_line}
use Rattle.rules.proofs.Chart.{heading_length, cell_length, columns_length}
use Rattle.chart_line.proofs.Pieces.{Begun, begun_more}

-- a line after line 0 by the class that heads it
pub heading_later : (M : Model) (k : ℕ) → 0 < k → heading M k ≡ number (get_or (concretes M) (k - 1) 0)
unfolding heading
heading_later M zero h = absurd (omega arith)
heading_later M (suc k) h =
    let e : suc k - 1 ≡ k = omega arith in
    rw e refl

pub cell_later : (M : Model) (f k c : ℕ) → 0 < k → cell M f k c ≡ entry (lookup M f (get_or (concretes M) (k - 1) 0 ∷ c ∷ []))
unfolding cell
cell_later M f zero c h = absurd (omega arith)
cell_later M f (suc k) c h =
    let e : suc k - 1 ≡ k = omega arith in
    rw e refl

-- one column more
pub columns_snoc : (places : ℕ → List ℕ) (cs : List ℕ) (c : ℕ) → columns places (cs ++ (c ∷ [])) ≡ columns places cs ++ (32 ∷ places c)
unfolding columns
columns_snoc places [] c = append-nil (32 ∷ places c)
columns_snoc places (d ∷ cs) c = rw (columns_snoc places cs c) (sym (append_assoc (32 ∷ places d) (columns places cs) (32 ∷ places c)))

-- the first columns behind four bytes
abbrev pub columns_to : List ℕ → (ℕ → List ℕ) → List ℕ → ℕ → List ℕ
columns_to start places classes i = start ++ columns places (take i classes)

module _ (start : List ℕ) (places : ℕ → List ℕ) (four : length start ≡ 4) (each : (c : ℕ) → length (places c) ≡ 4) (classes : List ℕ) (i : ℕ) where
  pub columns_to_length : i ≤ length classes → length (columns_to start places classes i) ≡ 4 + 5 * i
  columns_to_length h =
      length-append start (columns places (take i classes))
      ∙ rw (four, columns_length places each (take i classes), length-take-le i classes h) refl

  -- one column more
  pub columns_more : i < length classes → columns_to start places classes i ++ (32 ∷ []) ++ places (get_or classes i 0) ≡ columns_to start places classes (i + 1)
  columns_more h =
      rw (add-one i, take-suc classes i 0 h, columns_snoc) (
      append_assoc (columns_to start places classes i) (32 ∷ []) (places (get_or classes i 0))
      ∙ append_assoc start (columns places (take i classes)) (32 ∷ places (get_or classes i 0)))

-- The columns behind the first four bytes of a buffer that holds a line: none of them, and one more.
module _ (old : List ℕ) (places : ℕ → List ℕ) (classes : List ℕ) (room : 5 + 5 * length classes ≤ length old) where
  four : length (take 4 old) ≡ 4
  four = length-take-le 4 old (omega arith)

  pub columns_none : Begun old (columns_to (take 4 old) places classes 0) old
  unfolding columns four
  columns_none = rw (append-nil, four) (sym (take-append-drop 4 old))

  pub columns_next : ((c : ℕ) → length (places c) ≡ 4) → (i : ℕ) (line blank new : List ℕ) → i < length classes
      → Begun old (columns_to (take 4 old) places classes i) line
      → blank ≡ take (4 + 5 * i) line ++ (32 ∷ []) ++ drop (4 + 5 * i + 1) line
      → (let piece = places (get_or classes i 0) in new ≡ take (4 + 5 * i + 1) blank ++ piece ++ drop (4 + 5 * i + 1 + length piece) blank)
      → Begun old (columns_to (take 4 old) places classes (i + 1)) new
  columns_next each i line blank new h b first second =
      let text = columns_to (take 4 old) places classes i in
      let long = columns_to_length (take 4 old) places four each classes i (omega arith) in
      let behind = begun_more old text (32 ∷ []) line blank (4 + 5 * i) b (sym long) first in
      let all = begun_more old (text ++ (32 ∷ [])) (places (get_or classes i 0)) blank new (4 + 5 * i + 1) behind (omega (arith, length-append text (32 ∷ []), long)) second in
      subst (λ (xs : List ℕ). Begun old xs new) (columns_more (take 4 old) places four each classes i h) all

-- the heading, the columns and the newline, written one behind the other, are the line
pub line_made : (M : Model) (f k : ℕ) (old classes : List ℕ) → classes ≡ concretes M → (start headed columned new : List ℕ)
    → start ≡ heading M k → headed ≡ start ++ drop (0 + length start) old
    → (let text = columns (cell M f k) classes in columned ≡ take 4 headed ++ text ++ drop (4 + length text) headed)
    → new ≡ take (4 + 5 * length classes) columned ++ (10 ∷ []) ++ drop (4 + 5 * length classes + 1) columned
    → (let text = chart_line M f k in new ≡ text ++ drop (length text) old)
unfolding chart_line
line_made M f k old classes h start headed columned new e first second third =
    let text = columns (cell M f k) classes in
    let four : length start ≡ 4 = ap (length {A = ℕ}) e ∙ heading_length M k in
    let both = begun_more old start text headed columned 4 (begun_more old [] start old headed 0 refl refl first) (sym four) second in
    let long : 4 + 5 * length classes ≡ length (start ++ text) =
    sym (length-append start text ∙ rw (four, columns_length (cell M f k) (cell_length M f k) classes) refl) in
    rw (e, h) at (begun_more old (start ++ text) (10 ∷ []) columned new (4 + 5 * length classes) both long third)
