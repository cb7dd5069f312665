-- What opening settles: a bundle of a wrong size is refused, and an opened one is a well-formed model whose lists and bodies follow without gaps.
-- Assumes nothing.
use Prim.Native.Nat.{ℕ, zero, suc, ◌/◌, ◌≤◌, ◌<◌}
use native.Mathlib.Nat.{pos_of_ne-zero}
use native.Mathlib.Omega.{arith}
use mathlib.Core.Path.{◌≡◌, refl, sym, ◌∙◌}
use mathlib.Core.Bool.{Bool, true, false, false≢true, beq}
use mathlib.Core.List.{List, [], ◌∷◌}
use lib.Dec.{ltb, eqb}
use lib.ListN.{length, take, get_or}
use lib.Seq.{length-take-le, take_all}
use borrow.Author.Tests.{leb-true, ltb-true, eqb-true, not-true, lt-leb, le-leb, eq-eqb}
use Rattle.rules.specs.Bounded.{upto, sum, every, any, matching}
use Rattle.rules.specs.Layout.{gives, refuses, require, opening, size_rule, limit_rule, tuple_rule, class_count, function_count, signature_count, method_count, max_classes, max_functions, max_signatures, max_methods, places, list_offset, list_length, parents_of, class_rule, arity_of, function_rule, sig_function_of, sig_tuple_of, sig_result_of, signature_rule, function_of, specialiser_tuple_of, declared_tuple_of, result_of, body_offset, body_length, code_of, method_rule, twins, twin_rule, instruction_rule, every_pair, code_rule}
use Rattle.rules.specs.Model.{Model, Wellformed, decode, instructions, model_of, present, operand_rule}
use Rattle.rules.proofs.Lists.{and_left, and_right, and_both, any_from, below_upto, matching_from}
use Rattle.rules.proofs.Opening.{Rules, opened_rules}
use Rattle.rules.proofs.Places.{sequence_begins, class_sequence, method_sequence, parents_length, code_length, sig_tuple_length, specialiser_tuple_length, declared_tuple_length, used_places_read, instructions_length}

outside_refused : (b : List ℕ) → size_rule b ≡ false → opening b ≡ refuses 1 []
unfolding opening require
outside_refused b e = rw e

pub short_refused : (b : List ℕ) → length b < 24 → opening b ≡ refuses 1 []
unfolding size_rule
short_refused b h = outside_refused b (rw (lt-leb 24 (length b) h))

pub long_refused : (b : List ℕ) → 65535 < length b → opening b ≡ refuses 1 []
unfolding size_rule
long_refused b h = outside_refused b (rw (le-leb 24 (length b) (omega arith), lt-leb (length b) 65535 h))

-- each list and each body begins at the sum of the lengths before it
module _ (b counts : List ℕ) (opened : opening b ≡ gives counts) where
  pub list_begins : (c : ℕ) → c < class_count b → list_offset b c ≡ sum (list_length b) c
  list_begins c h = sequence_begins _ _ _ _ _ _ (class_sequence b c ((opened_rules b counts opened).of_class c h))

  pub body_begins : (m : ℕ) → m < method_count b → body_offset b m ≡ sum (body_length b) m
  body_begins m h = sequence_begins _ _ _ _ _ _ (method_sequence b m ((opened_rules b counts opened).of_method m h))

-- a tuple that keeps its rule
module _ (classes n : ℕ) (t : List ℕ) (rule : tuple_rule classes n t ≡ true) where
  used_present : every (λ c. ltb c classes) (take n t) ≡ true
  unfolding tuple_rule
  used_present = search and_left

  -- two tuples of equal length that agree on their used places agree everywhere
  used_match : (k : ℕ) (u : List ℕ) → tuple_rule classes k u ≡ true → length t ≡ length u → take n t ≡ take k u → matching eqb t u ≡ true
  used_match k u other same e =
      matching_from eqb t u 0 0 same
      (λ i h. eq-eqb (get_or t i 0) (get_or u i 0) (cc (used_places_read classes n t rule i, used_places_read classes k u other i)))

beq_same : (s t : Bool) → beq s t ≡ true → s ≡ t
beq_same true true e = refl
beq_same true false e = sym e
beq_same false true e = e
beq_same false false e = refl

-- what the rule of a class says
module _ (b : List ℕ) (c : ℕ) (rule : class_rule b c ≡ true) where
  class_parents : every (λ p. ltb p c) (parents_of b c) ≡ true
  unfolding class_rule
  class_parents = search (and_left, and_right)

  class_root : eqb c 0 ≡ eqb (list_length b c) 0
  unfolding class_rule
  class_root = beq_same (eqb c 0) (eqb (list_length b c) 0) (search (and_left, and_right))

-- what the rule of a signature says
module _ (b : List ℕ) (s : ℕ) (rule : signature_rule b s ≡ true) where
  signature_function : sig_function_of b s < function_count b
  unfolding signature_rule
  signature_function = ltb-true (sig_function_of b s) (function_count b) (search (and_left, and_right))

  signature_tuple : tuple_rule (class_count b) (arity_of b (sig_function_of b s)) (sig_tuple_of b s) ≡ true
  unfolding signature_rule
  signature_tuple = search (and_left, and_right)

  signature_result : sig_result_of b s < class_count b
  unfolding signature_rule
  signature_result = ltb-true (sig_result_of b s) (class_count b) (search (and_left, and_right))

-- what the rule of a method says
module _ (b : List ℕ) (m : ℕ) (rule : method_rule b m ≡ true) where
  method_function : function_of b m < function_count b
  unfolding method_rule
  method_function = ltb-true (function_of b m) (function_count b) (search (and_left, and_right) depth 9)

  method_specialisers : tuple_rule (class_count b) (arity_of b (function_of b m)) (specialiser_tuple_of b m) ≡ true
  unfolding method_rule
  method_specialisers = search (and_left, and_right) depth 9

  method_declared : tuple_rule (class_count b) (arity_of b (function_of b m)) (declared_tuple_of b m) ≡ true
  unfolding method_rule
  method_declared = search (and_left, and_right) depth 9

  method_result : result_of b m < class_count b
  unfolding method_rule
  method_result = ltb-true (result_of b m) (class_count b) (search (and_left, and_right) depth 9)

  method_some : 2 ≤ body_length b m
  unfolding method_rule
  method_some = leb-true 2 (body_length b m) (search (and_left, and_right) depth 9)

  method_limit : body_length b m ≤ 128
  unfolding method_rule
  method_limit = leb-true (body_length b m) 128 (search (and_left, and_right) depth 9)

-- an instruction whose bytes keep their rule has an operand that keeps its own
operand_holds : (M : Model) (n x y : ℕ) → instruction_rule n M.classes M.functions x y ≡ true → operand_rule M n (decode x y) ≡ true
unfolding instruction_rule operand_rule decode
operand_holds M n zero y e = e
operand_holds M n (suc zero) y e = e
operand_holds M n (suc (suc zero)) y e = e
operand_holds M n (suc (suc (suc zero))) y e = refl
operand_holds M n (suc (suc (suc (suc x)))) y e = absurd (false≢true e)

operands_hold : (M : Model) (n : ℕ) (bytes : List ℕ) → every_pair (instruction_rule n M.classes M.functions) bytes ≡ true
    → every (operand_rule M n) (instructions bytes) ≡ true
unfolding every_pair every instructions
operands_hold M n [] e = refl
operands_hold M n (x ∷ []) e = refl
operands_hold M n (x ∷ y ∷ rest) e =
    let pair : Bool = instruction_rule n M.classes M.functions x y in
    let others : Bool = every_pair (instruction_rule n M.classes M.functions) rest in
    and_both (operand_rule M n (decode x y)) (every (operand_rule M n) (instructions rest)) (operand_holds M n x y (and_left pair others e))
    (operands_hold M n rest (and_right pair others e))

-- what the rules together say of the model
module _ (b : List ℕ) (r : Rules b) where
  arity_within : (f : ℕ) → f < function_count b → arity_of b f ≤ places
  unfolding function_rule
  arity_within f h = leb-true (arity_of b f) places (r.of_function f h)

  -- the used places of a tuple of a present function are as many as its arguments
  used_length : (f : ℕ) → f < function_count b → (t : List ℕ) → length t ≡ places → length (take (arity_of b f) t) ≡ arity_of b f
  used_length f h t e = length-take-le (arity_of b f) t (omega (arith, arity_within f h))

  body_length_lem : (m : ℕ) → m < method_count b → length (instructions (code_of b m)) ≡ body_length b m / 2
  body_length_lem m h = rw (instructions_length, code_length b r m h)

  twins_refused : (m n : ℕ) → m < method_count b → n < m → twins b m n ≡ true → ⊥
  unfolding twin_rule
  twins_refused m n h less e =
      let found : any (λ k. twins b m k) (upto m) ≡ true = any_from (λ k. twins b m k) (upto m) (below_upto m n less) e in
      let none = not-true (any (λ k. twins b m k) (upto m)) (r.of_twin m h) in
      false≢true (cc)

  same_twins : (m n : ℕ) → m < method_count b → n < method_count b → function_of b m ≡ function_of b n
      → take (arity_of b (function_of b m)) (specialiser_tuple_of b m) ≡ take (arity_of b (function_of b n)) (specialiser_tuple_of b n) → twins b m n ≡ true
  unfolding twins
  same_twins m n h k f e =
      and_both (eqb (function_of b m) (function_of b n)) (matching eqb (specialiser_tuple_of b m) (specialiser_tuple_of b n))
      (eq-eqb (function_of b m) (function_of b n) f)
      (used_match (class_count b) (arity_of b (function_of b m)) (specialiser_tuple_of b m) (method_specialisers b m (r.of_method m h))
      (arity_of b (function_of b n)) (specialiser_tuple_of b n) (method_specialisers b n (r.of_method n k))
      (specialiser_tuple_length b r m h ∙ sym (specialiser_tuple_length b r n k)) e)

  parents_none : 0 < class_count b → parents_of b 0 ≡ []
  parents_none h =
      let empty : list_length b 0 ≡ 0 = eqb-true (list_length b 0) 0 (sym (class_root b 0 (r.of_class 0 h)) ∙ eq-eqb 0 0 refl) in
      sym (take_all 0 (parents_of b 0) (omega (arith, parents_length b r 0 h)))

  parents_present : (c : ℕ) → c < class_count b → 0 < c → 0 < length (parents_of b c)
  parents_present c h positive =
      let root : list_length b c ≡ 0 → c ≡ 0 = λ e. eqb-true c 0 (class_root b c (r.of_class c h) ∙ eq-eqb (list_length b c) 0 e) in
      rw (parents_length b r c h) (pos_of_ne-zero (λ e. omega (arith, root e)))

  rules_wellformed : Wellformed (model_of b)
  unfolding model_of present limit_rule code_rule
  rules_wellformed =
      let limits : limit_rule b ≡ true = r.limit in
      let some : 0 < class_count b = ltb-true 0 (class_count b) (search (and_left, and_right)) in
      record {
        classes_some = some;
        classes_limit = leb-true (class_count b) max_classes (search (and_left, and_right));
        functions_limit = leb-true (function_count b) max_functions (search (and_left, and_right));
        signatures_limit = leb-true (signature_count b) max_signatures (search (and_left, and_right));
        methods_limit = leb-true (method_count b) max_methods (search (and_left, and_right));
        parents_lower = λ c h. class_parents b c (r.of_class c h);
        root_alone = parents_none some;
        parents_some = parents_present;
        arity_limit = arity_within;
        sig_function_lem = λ s h. signature_function b s (r.of_signature s h);
        sig_places = λ s h. used_length (sig_function_of b s) (signature_function b s (r.of_signature s h)) (sig_tuple_of b s) (sig_tuple_length b r s h);
        sig_present = λ s h. used_present (class_count b) (arity_of b (sig_function_of b s)) (sig_tuple_of b s) (signature_tuple b s (r.of_signature s h));
        sig_result_lem = λ s h. signature_result b s (r.of_signature s h);
        function_present = λ m h. method_function b m (r.of_method m h);
        specialiser_places = λ m h. used_length (function_of b m) (method_function b m (r.of_method m h)) (specialiser_tuple_of b m) (specialiser_tuple_length b r m h);
        specialisers_present = λ m h. used_present (class_count b) (arity_of b (function_of b m)) (specialiser_tuple_of b m) (method_specialisers b m (r.of_method m h));
        declared_places = λ m h. used_length (function_of b m) (method_function b m (r.of_method m h)) (declared_tuple_of b m) (declared_tuple_length b r m h);
        declared_present = λ m h. used_present (class_count b) (arity_of b (function_of b m)) (declared_tuple_of b m) (method_declared b m (r.of_method m h));
        result_present = λ m h. method_result b m (r.of_method m h);
        no_twins = λ m n h less f e. twins_refused m n h less (same_twins m n h (omega arith) f e);
        body_some = λ m h. rw (body_length_lem m h) (omega (arith, method_some b m (r.of_method m h)));
        body_limit = λ m h. rw (body_length_lem m h) (omega (arith, method_limit b m (r.of_method m h)));
        body_operands = λ m h. operands_hold (model_of b) (arity_of b (function_of b m)) (code_of b m) (r.of_code m h);
      }

pub opened_wellformed : (b counts : List ℕ) → opening b ≡ gives counts → Wellformed (model_of b)
opened_wellformed b counts e = rules_wellformed b (opened_rules b counts e)
