-- What searches among the tuples below the upper classes say of the rough answer.
-- Assumes nothing.
use Prim.Native.Nat.{ℕ}
use mathlib.Core.Path.{◌≡◌, sym, ◌∙◌}
use mathlib.Core.Bool.{true, false, false≢true}
use mathlib.Core.List.{List, []}
use lib.ListN.{take}
use borrow.Author.Tests.{eq-eqb, not-true, not-false}
use Rattle.std.specs.Prelude as std
use Rattle.rules.specs.Bounded.{every, any}
use Rattle.rules.specs.Layout.{gives, refuses, require}
use Rattle.rules.specs.Model.{Model}
use Rattle.rules.specs.Lookup.{lookup}
use Rattle.rules.specs.Coverage.{tuples, Below}
use Rattle.rules.specs.Calls.{send_rule}
use Rattle.rules.specs.Rough.{Rough, one, may_fail, several, is_method, is_failure, rough, has_concrete, rough_of, rough_in, Says}
use Rattle.rules.proofs.Lists.{any_mem, any_from, any_none, any_fails, first_mem, first_none}
use Rattle.rules.proofs.Rough.{is_method_lem, no_failure, below_listed, listed_below, below_concrete, says_rough, calls_narrow}
use Rattle.sends.specs.Send.{Passes}
use Rattle.tuple_search.specs.declared.question.Question.{Question}
use Rattle.tuple_search.specs.declared.question.Question.TheVariants.{Finds, FindsOnly}
use Rattle.tuple_search.specs.Questions.{stops_at}
use Rattle.tuple_search.specs.Search.{stop_in, FirstStop}
use Rattle.upper_classes.specs.Answered.{SomeFinds, CallsNarrow}

-- a search stops exactly where some tuple stops it
pub stops_any : (M : Model) (q : Question) (upper : List ℕ) (r : std.Option (List ℕ)) → FirstStop M q upper r → std.is_some r ≡ any (stops_at M q) (tuples M upper)
unfolding stop_in
stops_any M q upper (std.Some tuple) (t, s, same) =
    let (m, h) = first_mem (stops_at M q) (tuples M upper) s in
    sym (any_from (stops_at M q) (tuples M upper) m h)
stops_any M q upper std.None s = sym (any_none (stops_at M q) (tuples M upper) (λ t m. first_none (stops_at M q) (tuples M upper) s m))

module _ (M : Model) (f : ℕ) (upper : List ℕ) where
  -- where no tuple stops a search, all pass
  none_stops : (q : Question) → any (stops_at M q) (tuples M upper) ≡ false → (t : List ℕ) → Below M upper t → stops_at M q t ≡ false
  none_stops q e t b = any_fails (stops_at M q) (tuples M upper) e (below_listed M upper t b)

  -- an answer that is true is the answer, where there is a tuple
  answer : (t : List ℕ) → Below M upper t → (r : Rough) → Says M f upper r → r ≡ rough M f upper
  answer t b r s = says_rough M f upper (below_concrete M upper t b) r s

  pub fails_answer : (t : List ℕ) → Below M upper t → is_failure (lookup M f t) ≡ true → may_fail ≡ rough M f upper
  fails_answer t b e = answer t b may_fail (t, b, e)

  pub some_fails_answer : any (stops_at M (Finds f)) (tuples M upper) ≡ true → may_fail ≡ rough M f upper
  unfolding stops_at
  some_fails_answer e = let (t, n, h) = any_mem (stops_at M (Finds f)) (tuples M upper) e in fails_answer t (listed_below M upper n) h

  module _ (m : ℕ) (s : SomeFinds M f upper m) where
    pub one_answer : any (stops_at M (FindsOnly f m)) (tuples M upper) ≡ false → one m ≡ rough M f upper
    unfolding stops_at
    one_answer e = answer s.tuple s.below (one m) (λ t b. is_method_lem m (lookup M f t) (not-false _ (none_stops (FindsOnly f m) e t b)))

    pub several_answer : any (stops_at M (FindsOnly f m)) (tuples M upper) ≡ true → any (stops_at M (Finds f)) (tuples M upper) ≡ false
        → several ≡ rough M f upper
    unfolding stops_at is_method
    several_answer e d =
        let (t, n, h) = any_mem (stops_at M (FindsOnly f m)) (tuples M upper) e in
        let b = listed_below M upper n in
        let (k, g) = no_failure (lookup M f t) (none_stops (Finds f) d t b) in
        answer s.tuple s.below several (
          none_stops (Finds f) d,
          record {
            left = s.tuple;
            right = t;
            left_below = s.below;
            right_below = b;
            left_method = m;
            right_method = k;
            left_found = s.finds;
            right_found = g;
            apart = λ same. false≢true (sym (not-true _ (rw g at h)) ∙ eq-eqb k m (sym same));
          },
        )

-- the answers of the call
pub upper_abstract : (M : Model) (f : ℕ) (upper : List ℕ) → every (has_concrete M) upper ≡ false → refuses 24 [] ≡ rough_of M f upper
unfolding rough_of require
upper_abstract M f upper h = rw h

pub upper_answered : (M : Model) (f : ℕ) (upper : List ℕ) → every (has_concrete M) upper ≡ true → gives (rough M f upper) ≡ rough_of M f upper
unfolding rough_of require
upper_answered M f upper h = rw h

pub rough_absent : (M : Model) (f : ℕ) (tuple : List ℕ) → send_rule M f tuple ≡ false → refuses 18 [] ≡ rough_in f tuple M
unfolding rough_in require
rough_absent M f tuple e = rw e

pub rough_sent : (M : Model) (f : ℕ) (tuple : List ℕ) {n : ℕ} {classes : List ℕ} → send_rule M f tuple ≡ true → Passes M f tuple n classes
    → rough_of M f (take n classes) ≡ rough_in f tuple M
unfolding rough_in require
rough_sent M f tuple e p = rw (e, p.same)

-- and of two calls
pub answers_narrow : CallsNarrow
answers_narrow b n k f wide narrow x y r q e d h g u = calls_narrow b n k f wide narrow r q (sym e ∙ g) (sym d ∙ u) h
