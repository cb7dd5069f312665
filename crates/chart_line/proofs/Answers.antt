-- What the line call answers, by the first of its rules that is broken.
-- Assumes nothing.
use Prim.Native.Nat.{ℕ, ◌≤◌, ◌<◌}
use mathlib.Core.Path.{◌≡◌, refl, sym, ap, ◌∙◌}
use mathlib.Core.List.{List, [], ◌++◌}
use lib.ListN.{length, drop}
use borrow.Author.Tests.{lt-ltb, le-ltb, le-leb, lt-leb, eq-eqb, ne_eqb}
use Rattle.rules.specs.Layout.{Answer, gives, refuses, require}
use Rattle.rules.specs.Model.{Model}
use Rattle.rules.specs.Chart.{concretes, chart_line, line_bytes, chart_in, line_on}
use Rattle.chart_line.specs.Charted.{length_said}

module _ (M : Model) (buffer f k : ℕ) where
  pub answer_absent : M.functions ≤ f → chart_in buffer f k M ≡ refuses 18 []
  unfolding chart_in require
  answer_absent h = rw (le-ltb f M.functions h) refl

  module _ (h : f < M.functions) where
    pub answer_not_binary : (M.arity f ≡ 2 → ⊥) → chart_in buffer f k M ≡ refuses 21 []
    unfolding chart_in require
    answer_not_binary a = rw (lt-ltb f M.functions h, ne_eqb (M.arity f) 2 a) refl

    module _ (a : M.arity f ≡ 2) where
      pub answer_no_line : length (concretes M) < k → chart_in buffer f k M ≡ refuses 22 []
      unfolding chart_in require
      answer_no_line l = rw (lt-ltb f M.functions h, eq-eqb (M.arity f) 2 a, lt-leb k (length (concretes M)) l) refl

      module _ (l : k ≤ length (concretes M)) where
        pub answer_short : buffer < line_bytes M → chart_in buffer f k M ≡ refuses 23 []
        unfolding chart_in require
        answer_short s = rw (lt-ltb f M.functions h, eq-eqb (M.arity f) 2 a, le-leb k (length (concretes M)) l, lt-leb (line_bytes M) buffer s) refl

        pub answer_line : line_bytes M ≤ buffer → chart_in buffer f k M ≡ gives (chart_line M f k)
        unfolding chart_in require
        answer_line s = rw (lt-ltb f M.functions h, eq-eqb (M.arity f) 2 a, le-leb k (length (concretes M)) l, le-leb (line_bytes M) buffer s) refl

-- the two promises for a refusal, and for a line
pub refused_both : {number : ℕ} {answer : Answer (List ℕ)} (old : List ℕ) → answer ≡ refuses number [] → (refuses number [] ≡ length_said answer) × (old ≡ line_on answer old)
unfolding line_on
refused_both old e = (sym (ap length_said e), sym (ap (λ (a : Answer (List ℕ)). line_on a old) e))

pub written_both : {answer : Answer (List ℕ)} (old line new : List ℕ) (n : ℕ) → answer ≡ gives line → n ≡ length line → new ≡ line ++ drop (length line) old
    → (gives n ≡ length_said answer) × (new ≡ line_on answer old)
unfolding line_on
written_both old line new n e l w = (ap gives l ∙ sym (ap length_said e), w ∙ sym (ap (λ (a : Answer (List ℕ)). line_on a old) e))
