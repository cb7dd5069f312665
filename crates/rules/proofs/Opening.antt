-- What opening says of a bundle: it gives the counts exactly when every rule holds, and where the sections lie; it refuses by 9 at the most.
-- Assumes nothing.
use Prim.Native.Nat.{ℕ, suc, ◌+◌, ◌≤◌, ◌<◌}
use native.Mathlib.Omega.{arith}
use mathlib.Core.Path.{◌≡◌, refl, ap, subst}
use mathlib.Core.Bool.{Bool, true, false, not, ◌&&◌, false≢true}
use mathlib.Core.List.{List, [], ◌∷◌}
use mathlib.Core.Option.{Option, none, some}
use lib.Dec.{eqb}
use lib.ListN.{length}
use borrow.Author.Tests.{leb-true, eqb-true, not-false}
use Rattle.rules.specs.Bounded.{upto}
use Rattle.rules.specs.Layout.{Answer, gives, refuses, require, require_each, lowest, offset, extent, section_end, size_rule, chain_rule, whole_rule, limit_rule, class_rule, function_rule, signature_rule, method_rule, twin_rule, code_rule, class_count, function_count, signature_count, method_count, opening}
use Rattle.rules.proofs.Lists.{and_left, and_right, lowest_none, none_lowest, every_mem, below_upto}

-- every rule of numbers 1 to 9 holds
pub record Rules (b : List ℕ) : Type 0 where
  pub size : size_rule b ≡ true
  pub chain : chain_rule b ≡ true
  pub whole : whole_rule b ≡ true
  pub limit : limit_rule b ≡ true
  pub of_class : (c : ℕ) → c < class_count b → class_rule b c ≡ true
  pub of_function : (f : ℕ) → f < function_count b → function_rule b f ≡ true
  pub of_signature : (s : ℕ) → s < signature_count b → signature_rule b s ≡ true
  pub of_method : (m : ℕ) → m < method_count b → method_rule b m ≡ true
  pub of_twin : (m : ℕ) → m < method_count b → twin_rule b m ≡ true
  pub of_code : (m : ℕ) → m < method_count b → code_rule b m ≡ true

module _ {A : Type 0} where
  pub require_passed : (t : Bool) (number : ℕ) (rest : Answer A) {x : A} → require t number rest ≡ gives x → (t ≡ true) × (rest ≡ gives x)
  unfolding require
  require_passed true number rest e = (refl, e)
  require_passed false number rest e = absurd (false≢true (cc))

  each_passed : (r : Option ℕ) (number : ℕ) (rest : Answer A) {x : A} → require_each r number rest ≡ gives x → (r ≡ none) × (rest ≡ gives x)
  unfolding require_each
  each_passed none number rest e = (refl, e)
  each_passed (some k) number rest e = absurd (false≢true (cc))

pub all_hold : (rule : ℕ → Bool) (n : ℕ) → lowest rule n ≡ none → (k : ℕ) → k < n → rule k ≡ true
unfolding lowest
all_hold rule n e k h = not-false (rule k) (lowest_none (λ j. not (rule j)) n e k h)

pub none_broken : (rule : ℕ → Bool) (n : ℕ) → ((k : ℕ) → k < n → rule k ≡ true) → lowest rule n ≡ none
unfolding lowest
none_broken rule n h = none_lowest (λ j. not (rule j)) n (λ k r. ap not (h k r))

pub opened_rules : (b counts : List ℕ) → opening b ≡ gives counts → Rules b
unfolding opening
opened_rules b counts e =
    let (s1, e1) = require_passed _ 1 _ e in
    let (s2, e2) = require_passed _ 2 _ e1 in
    let (s3, e3) = require_passed _ 3 _ e2 in
    let (s4, e4) = each_passed _ 4 _ e3 in
    let (s5, e5) = each_passed _ 5 _ e4 in
    let (s6, e6) = each_passed _ 6 _ e5 in
    let (s7, e7) = each_passed _ 7 _ e6 in
    let (s8, e8) = each_passed _ 8 _ e7 in
    let (s9, e9) = each_passed _ 9 _ e8 in
    record {
      size = s1;
      chain = and_left (chain_rule b) (whole_rule b) s2;
      whole = and_right (chain_rule b) (whole_rule b) s2;
      limit = s3;
      of_class = all_hold (class_rule b) (class_count b) s4;
      of_function = all_hold (function_rule b) (function_count b) s5;
      of_signature = all_hold (signature_rule b) (signature_count b) s6;
      of_method = all_hold (method_rule b) (method_count b) s7;
      of_twin = all_hold (twin_rule b) (method_count b) s8;
      of_code = all_hold (code_rule b) (method_count b) s9;
    }

pub rules_open : (b : List ℕ) → Rules b → opening b ≡ gives (class_count b ∷ function_count b ∷ signature_count b ∷ method_count b ∷ [])
unfolding opening require require_each
rules_open b r =
    rw (
      r.size,
      r.chain,
      r.whole,
      r.limit,
      none_broken (class_rule b) (class_count b) r.of_class,
      none_broken (function_rule b) (function_count b) r.of_function,
      none_broken (signature_rule b) (signature_count b) r.of_signature,
      none_broken (method_rule b) (method_count b) r.of_method,
      none_broken (twin_rule b) (method_count b) r.of_twin,
      none_broken (code_rule b) (method_count b) r.of_code,
    )

-- a refusal has a number of 9 at the most
abbrev Early : Answer (List ℕ) → Type 0
Early (gives counts) = Unit {0}
Early (refuses number vs) = number ≤ 9

require_early : (t : Bool) (number : ℕ) (rest : Answer (List ℕ)) → number ≤ 9 → Early rest → Early (require t number rest)
unfolding require
require_early true number rest h k = k
require_early false number rest h k = h

each_early : (r : Option ℕ) (number : ℕ) (rest : Answer (List ℕ)) → number ≤ 9 → Early rest → Early (require_each r number rest)
unfolding require_each
each_early none number rest h k = k
each_early (some n) number rest h k = h

opening_early : (b : List ℕ) → Early (opening b)
unfolding opening
opening_early b =
    require_early (size_rule b) 1 _ (omega arith)
    (require_early (chain_rule b && whole_rule b) 2 _ (omega arith)
    (require_early (limit_rule b) 3 _ (omega arith)
    (each_early (lowest (class_rule b) (class_count b)) 4 _ (omega arith)
    (each_early (lowest (function_rule b) (function_count b)) 5 _ (omega arith)
    (each_early (lowest (signature_rule b) (signature_count b)) 6 _ (omega arith)
    (each_early (lowest (method_rule b) (method_count b)) 7 _ (omega arith)
    (each_early (lowest (twin_rule b) (method_count b)) 8 _ (omega arith)
    (each_early (lowest (code_rule b) (method_count b)) 9 _ (omega arith) tt))))))))

pub opening_number : (b : List ℕ) (number : ℕ) (vs : List ℕ) → opening b ≡ refuses number vs → number ≤ 9
opening_number b number vs e = subst Early e (opening_early b)

-- where the six sections lie
pub record Sections (b : List ℕ) : Type 0 where
  pub long : 24 ≤ length b
  pub short : length b ≤ 65535
  pub first : offset b 0 ≡ 24
  pub second : offset b 1 ≡ offset b 0 + extent b 0
  pub third : offset b 2 ≡ offset b 1 + extent b 1
  pub fourth : offset b 3 ≡ offset b 2 + extent b 2
  pub fifth : offset b 4 ≡ offset b 3 + extent b 3
  pub sixth : offset b 5 ≡ offset b 4 + extent b 4
  pub last : offset b 5 + extent b 5 ≡ length b

pub sections : (b : List ℕ) → size_rule b ≡ true → chain_rule b ≡ true → Sections b
unfolding size_rule chain_rule section_end
sections b s c =
    let step : (k : ℕ) → k < 5 → offset b (suc k) ≡ offset b k + extent b k =
    λ k h. eqb-true (offset b (suc k)) (offset b k + extent b k)
    (every_mem (λ k. eqb (offset b (suc k)) (offset b k + extent b k)) (upto 5) (search (and_left, and_right)) (below_upto 5 k h)) in
    record {
      long = leb-true 24 (length b) (search (and_left, and_right));
      short = leb-true (length b) 65535 (search (and_left, and_right));
      first = eqb-true (offset b 0) 24 (search (and_left, and_right));
      second = step 0 (omega arith);
      third = step 1 (omega arith);
      fourth = step 2 (omega arith);
      fifth = step 3 (omega arith);
      sixth = step 4 (omega arith);
      last = eqb-true (offset b 5 + extent b 5) (length b) (search (and_left, and_right));
    }
