-- Broken signatures as the search finds them: one of them, and the lowest.
-- Assumes nothing.
use Prim.Native.Nat.{ℕ, ◌<◌}
use native.Mathlib.Omega.{arith}
use mathlib.Core.Path.{◌≡◌, refl, sym, ap, ◌∙◌}
use mathlib.Core.Bool.{true, false, false≢true}
use mathlib.Core.List.{List, []}
use mathlib.Core.Option.{Option, none, some}
use lib.ListN.{take}
use Rattle.rules.specs.Bounded.{upto}
use Rattle.rules.specs.Layout.{Answer, gives, refuses, padded}
use Rattle.rules.specs.Model.{Model, Wellformed}
use Rattle.rules.specs.Coverage.{Judgement, holds, fails, judge, failing, tuples, broken_tuple, is_some, broken_signature, broken_method, coverage_refusal, tuple_verdict, body_verdict, coverage_verdict, verdict}
use Rattle.rules.specs.Alike.{implies}
use Rattle.rules.proofs.Lists.{any_mem, first_mem, upto_below, none_lowest, some_lowest, lowest_some}
use Rattle.rules.proofs.Coverage.{none_of, broken_fails}
use Rattle.rules.proofs.Rough.{listed_below}
use Rattle.rules.proofs.Tuples.{padded_read}
use Rattle.rules.proofs.Alike.{implied_covered}
use Rattle.subclasses.specs.Places.{Arguments}
use Rattle.coverage_rule.specs.Implied.{implied}
use Rattle.tuple_search.specs.declared.question.Question.TheVariants.{Rule}
use Rattle.tuple_search.specs.Questions.{stops_at}
use Rattle.tuple_search.specs.Search.{stop_in}
use Rattle.tuple_search.proofs.Narrowing.{below_arguments}
use Rattle.coverage.specs.Signatures.{signature_verdict}

-- what a search of all tuples below a signature's classes finds is its first broken tuple
pub stop_broken : (M : Model) (s : ℕ) → stop_in M (Rule s) [] (M.sig_args s) ≡ broken_tuple M s
unfolding stop_in stops_at broken_tuple
stop_broken M s = refl

-- the verdict on a signature by its broken tuple
module _ (M : Model) (s : ℕ) where
  pub tuple_none : broken_tuple M s ≡ none → gives tt ≡ tuple_verdict M s (broken_tuple M s)
  unfolding tuple_verdict
  tuple_none e = rw e

  pub tuple_some : {args : List ℕ} {x : Answer (Unit {0})} → broken_tuple M s ≡ some args → x ≡ coverage_refusal M s args (judge M s args)
      → x ≡ tuple_verdict M s (broken_tuple M s)
  unfolding tuple_verdict
  tuple_some e q = rw e q

-- the classes of a signature are arguments of its function, and so are those of its broken tuple
pub signature_arguments : {M : Model} → Wellformed M → (s : ℕ) → s < M.signatures → Arguments M (M.sig_function s) (M.sig_args s)
signature_arguments w s h = record { function = w.sig_function_lem s h; arity = w.sig_places s h; classes = w.sig_present s h }

pub tuple_arguments : (M : Model) → Wellformed M → (s : ℕ) (args : List ℕ) → s < M.signatures → broken_tuple M s ≡ some args → Arguments M (M.sig_function s) args
unfolding broken_tuple
tuple_arguments M w s args h e =
    below_arguments (signature_arguments w s h) (listed_below M (M.sig_args s) (first_mem (λ t. failing (judge M s t)) (tuples M (M.sig_args s)) e).0)

-- the broken tuple of a signature stands at as many places of an array as its function has arguments
pub broken_places : {M : Model} → Wellformed M → (s n : ℕ) (tuple t : List ℕ) → s < M.signatures → n ≡ M.arity (M.sig_function s)
    → broken_tuple M s ≡ some t → tuple ≡ padded t → broken_tuple M s ≡ some (take n tuple)
broken_places {M} w s n tuple t h long e same =
    let a = tuple_arguments M w s t h e in
    let few = w.arity_limit (M.sig_function s) a.function in
    e
    ∙ ap some (sym (ap (take n) same ∙ ap (λ k. take k (padded t)) (long ∙ sym a.arity) ∙ padded_read t (omega (arith, a.arity, few))))

-- A signature that is accepted is not broken; one that is refused, with none before it broken, is the lowest.
pub signature_holds : (M : Model) (s : ℕ) → gives tt ≡ tuple_verdict M s (broken_tuple M s) → is_some (broken_tuple M s) ≡ false
unfolding tuple_verdict is_some coverage_refusal failing
signature_holds M s e = go (broken_tuple M s) refl e
  where
    judged : (t : List ℕ) (j : Judgement) → failing j ≡ true → gives tt ≡ coverage_refusal M s t j → ⊥
    judged t (holds m) f q = false≢true f
    judged t (fails number ms) f q = false≢true (cc)

    go : (o : Option (List ℕ)) → broken_tuple M s ≡ o → gives tt ≡ tuple_verdict M s o → is_some o ≡ false
    go none q d = refl
    go (some t) q d = absurd (judged t (judge M s t) (broken_fails M s t q) d)

-- nor is one that an earlier one implies, with none before it broken
pub signature_implied : (M : Model) → Wellformed M → (s : ℕ) → ((i : ℕ) → i < s → is_some (broken_tuple M i) ≡ false) → implied M s ≡ true
    → is_some (broken_tuple M s) ≡ false
unfolding implied is_some
signature_implied M w s low e =
    let (r, m, q) = any_mem (λ r. implies M r s) (upto s) e in
    ap is_some (implied_covered M w r s q (none_of (broken_tuple M r) (low r (upto_below s m))))

pub signature_breaks : (M : Model) (s number : ℕ) (values : List ℕ) → s < M.signatures → ((i : ℕ) → i < s → is_some (broken_tuple M i) ≡ false)
    → refuses number values ≡ tuple_verdict M s (broken_tuple M s) → refuses number values ≡ signature_verdict M (broken_signature M)
unfolding signature_verdict broken_signature tuple_verdict is_some
signature_breaks M s number values h low e = rw (some_lowest (λ s. is_some (broken_tuple M s)) M.signatures s h (go (broken_tuple M s) e) low) e
  where
    go : (t : Option (List ℕ)) → refuses number values ≡ tuple_verdict M s t → is_some t ≡ true
    go none q = absurd (false≢true (cc))
    go (some t) q = refl

pub signatures_hold : (M : Model) → ((i : ℕ) → i < M.signatures → is_some (broken_tuple M i) ≡ false) → gives tt ≡ signature_verdict M (broken_signature M)
unfolding signature_verdict broken_signature
signatures_hold M h = rw (none_lowest (λ s. is_some (broken_tuple M s)) M.signatures h)

-- the verdict on the bundle, from that on the signatures
module _ (M : Model) where
  pub bodies_next : {x : Answer (Unit {0})} → gives tt ≡ signature_verdict M (broken_signature M) → x ≡ body_verdict M (broken_method M) → x ≡ verdict M
  unfolding verdict broken_signature signature_verdict coverage_verdict
  bodies_next {x} e q = go (broken_signature M) refl e
    where
      go : (o : Option ℕ) → broken_signature M ≡ o → gives tt ≡ signature_verdict M o → x ≡ coverage_verdict M o
      go none b d = q
      go (some s) b d = absurd (false≢true (sym (signature_holds M s d) ∙ (lowest_some (λ s. is_some (broken_tuple M s)) M.signatures s b).1))

  pub signatures_first : {number : ℕ} {values : List ℕ} → refuses number values ≡ signature_verdict M (broken_signature M) → refuses number values ≡ verdict M
  unfolding verdict signature_verdict coverage_verdict
  signatures_first {number} {values} e = go (broken_signature M) e
    where
      go : (o : Option ℕ) → refuses number values ≡ signature_verdict M o → refuses number values ≡ coverage_verdict M o
      go none d = absurd (false≢true (cc))
      go (some s) d = d
