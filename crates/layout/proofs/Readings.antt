-- What the bytes of an opened bundle's records read as: the places of a tuple, the parents of a class, the instructions of a body.
-- Assumes nothing.
use Prim.Native.Nat.{ℕ, zero, suc, ◌+◌, ◌*◌, ◌/◌, ◌≤◌, ◌<◌}
use native.Mathlib.Omega.{arith}
use mathlib.Core.Path.{◌≡◌, sym, ◌∙◌}
use mathlib.Core.Bool.{true}
use mathlib.Core.List.{List, [], ◌∷◌}
use lib.Dec.{ltb}
use lib.ListN.{length, take, get_or}
use borrow.Author.Tests.{ltb-true}
use Rattle.rules.specs.Bounded.{every}
use Rattle.rules.specs.Bytes.{byte, part}
use Rattle.rules.specs.Layout.{offset, parent_section, code_section, places, tuple_rule, class_count, list_offset, list_length, parents_of, class_rule, arity_of, sig_function_of, sig_tuple_at, sig_tuple_of, signature_rule, function_of, specialiser_tuple_at, declared_tuple_at, specialiser_tuple_of, declared_tuple_of, method_rule, body_offset, body_length, code_of}
use Rattle.rules.specs.Model.{arg, decode, model_of, operand_rule}
use Rattle.rules.proofs.Lists.{and_left, and_right, every_place}
use Rattle.rules.proofs.Places.{parents_length, code_length, used_places_read, instructions_length, instructions_read, list_within, body_within, rules_sections, part_at}
use Rattle.layout.specs.Opened.{Opened}
use Rattle.layout.specs.declared.bundle.Bundle.{Bundle}
use Rattle.layout.proofs.Lists.{rising_short}
use Rattle.layout.proofs.Opened.{rules_of, tables_of, wellformed_of, counts_of}

-- past its end a list reads 0, which is below every count but 0
get_d_below : (n : ℕ) → 0 < n → (xs : List ℕ) → every (λ c. ltb c n) xs ≡ true → (i : ℕ) → get_or xs i 0 < n
unfolding every
get_d_below n h [] e i = h
get_d_below n h (x ∷ xs) e zero = ltb-true x n (and_left (ltb x n) (every (λ c. ltb c n) xs) e)
get_d_below n h (x ∷ xs) e (suc i) = get_d_below n h xs (and_right (ltb x n) (every (λ c. ltb c n) xs) e) i

module _ {b : List ℕ} {t : Bundle} (o : Opened b t) where
  -- each place of a tuple that keeps its rule is the byte there, and names a class of the bundle
  place_read : (n at i : ℕ) → tuple_rule (class_count b) n (part b at places) ≡ true → i < places
      → (byte b (at + i) ≡ get_or (take n (part b at places)) i 0) × (byte b (at + i) < t.classes)
  unfolding tuple_rule model_of
  place_read n at i rule h =
      let same : byte b (at + i) ≡ get_or (take n (part b at places)) i 0 =
      sym (used_places_read (class_count b) n (part b at places) rule i ∙ part_at b at places i h) in
      let counts = counts_of o in
      let below = get_d_below (class_count b) (wellformed_of o).classes_some (take n (part b at places)) (search (and_left, and_right)) i in
      (same, omega arith)

  pub sig_arg_read : (s i : ℕ) → s < t.signatures → i < places
      → let x = byte b (sig_tuple_at b s + i) in (x ≡ get_or ((model_of b).sig_args s) i 0) × (x < t.classes)
  unfolding model_of sig_tuple_of signature_rule
  sig_arg_read s i h k =
      let rule : signature_rule b s ≡ true = (rules_of o).of_signature s (omega (arith, counts_of o)) in
      place_read (arity_of b (sig_function_of b s)) (sig_tuple_at b s) i (search (and_left, and_right)) k

  pub specialiser_read : (m i : ℕ) → m < t.methods → i < places
      → let x = byte b (specialiser_tuple_at b m + i) in (x ≡ get_or ((model_of b).specialisers m) i 0) × (x < t.classes)
  unfolding model_of specialiser_tuple_of method_rule
  specialiser_read m i h k =
      let rule : method_rule b m ≡ true = (rules_of o).of_method m (omega (arith, counts_of o)) in
      place_read (arity_of b (function_of b m)) (specialiser_tuple_at b m) i (search (and_left, and_right) depth 9) k

  pub declared_read : (m i : ℕ) → m < t.methods → i < places
      → let x = byte b (declared_tuple_at b m + i) in (x ≡ get_or ((model_of b).declared m) i 0) × (x < t.classes)
  unfolding model_of declared_tuple_of method_rule
  declared_read m i h k =
      let rule : method_rule b m ≡ true = (rules_of o).of_method m (omega (arith, counts_of o)) in
      place_read (arity_of b (function_of b m)) (declared_tuple_at b m) i (search (and_left, and_right) depth 9) k

  pub parents_counted : (c : ℕ) → c < t.classes → length ((model_of b).parents c) ≡ list_length b c
  unfolding model_of
  parents_counted c h = parents_length b (rules_of o) c (omega (arith, counts_of o))

  -- a list that rises strictly has no more parents than there are lower classes
  pub parents_few : (c : ℕ) → c < t.classes → length ((model_of b).parents c) ≤ c
  unfolding model_of class_rule
  parents_few c h =
      let counts = counts_of o in
      let rule : class_rule b c ≡ true = (rules_of o).of_class c (omega arith) in
      rising_short c (parents_of b c) (search (and_left, and_right)) (search (and_left, and_right))

  -- parent i of class c stands within the bundle, and is a lower class
  module _ (c i : ℕ) (h : c < t.classes) (k : i < length ((model_of b).parents c)) where
    pub parent_within : t.parent_at + list_offset b c + i < length b
    unfolding model_of
    parent_within =
        let tables = tables_of o in
        let counts = counts_of o in
        omega (arith, parents_counted c h, list_within b (rules_of o) c (omega arith), rules_sections b (rules_of o))

    pub parent_read : let x = byte b (t.parent_at + list_offset b c + i) in (x ≡ get_or ((model_of b).parents c) i 0) × (x < c)
    unfolding model_of parents_of
    parent_read =
        let same : byte b (offset b parent_section + list_offset b c + i) ≡ get_or (parents_of b c) i 0 =
        sym (part_at b (offset b parent_section + list_offset b c) (list_length b c) i (omega (arith, parents_counted c h))) in
        let lower = every_place (λ p. ltb p c) (parents_of b c) 0 ((wellformed_of o).parents_lower c (omega (arith, counts_of o))) i k in
        rw (tables_of o).parent_at (same, omega (arith, ltb-true (get_or (parents_of b c) i 0) c lower))

  -- two bytes to an instruction
  pub body_counted : (m : ℕ) → m < t.methods → length ((model_of b).body m) ≡ body_length b m / 2
  unfolding model_of
  body_counted m h = rw (instructions_length, code_length b (rules_of o) m (omega (arith, counts_of o)))

  pub body_in : (m : ℕ) → m < t.methods → t.code_at + body_offset b m + body_length b m ≤ length b
  unfolding model_of
  body_in m h = let counts = counts_of o in let tables = tables_of o in omega (arith, body_within b (rules_of o) m (omega arith))

  -- instruction i of method m is that of its two bytes, and its operand keeps its rule
  module _ (m i : ℕ) (h : m < t.methods) (k : i < length ((model_of b).body m)) where
    pub instruction_read : let at = t.code_at + body_offset b m + 2 * i in
        decode (byte b at) (byte b (at + 1)) ≡ get_or ((model_of b).body m) i (arg 0)
    unfolding model_of code_of
    instruction_read =
        let tables = tables_of o in
        let counts = counts_of o in
        let inside : 2 * i + 1 < body_length b m = omega (arith, body_counted m h) in
        let operation = part_at b (offset b code_section + body_offset b m) (body_length b m) (2 * i) (omega arith) in
        let operand = part_at b (offset b code_section + body_offset b m) (body_length b m) (2 * i + 1) inside in
        let next : offset b code_section + body_offset b m + (2 * i + 1) ≡ offset b code_section + body_offset b m + 2 * i + 1 = omega arith in
        cc (instructions_read (code_of b m) i (arg 0) (omega (arith, code_length b (rules_of o) m (omega arith))))

    pub operand_kept : operand_rule (model_of b) ((model_of b).arity ((model_of b).function m)) (get_or ((model_of b).body m) i (arg 0)) ≡ true
    operand_kept =
        every_place (operand_rule (model_of b) ((model_of b).arity ((model_of b).function m))) ((model_of b).body m) (arg 0)
        ((wellformed_of o).body_operands m (omega (arith, counts_of o))) i k
