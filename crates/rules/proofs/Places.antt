-- Where the records, lists and bodies of a bundle that keeps the rules lie within it, and what the parts read from it hold.
-- Assumes nothing.
use Prim.Native.Nat.{ℕ, zero, suc, ◌+◌, ◌*◌, ◌/◌, ◌≤◌, ◌<◌}
use native.Mathlib.Omega.{arith}
use mathlib.Core.Path.{◌≡◌, refl, sym, ◌∙◌}
use mathlib.Core.Bool.{true}
use mathlib.Core.List.{List, [], ◌∷◌}
use lib.Dec.{eqb}
use lib.ListN.{length, take, drop, get_or, length-drop}
use lib.Seq.{length-take-le, get_or-take, get_or-drop}
use borrow.Author.Tests.{leb-true, eqb-true}
use Rattle.rules.specs.Bounded.{every}
use Rattle.rules.specs.Bytes.{byte, part}
use Rattle.rules.specs.Layout.{offset, extent, in_sequence, sequence_rule, tuple_rule, list_offset, list_length, parents_of, class_rule, signature_at, sig_tuple_at, sig_tuple_of, method_at, specialiser_tuple_at, declared_tuple_at, specialiser_tuple_of, declared_tuple_of, body_offset, body_length, code_of, method_rule, class_count, signature_count, method_count, parent_section, function_section, method_section, code_section, places, signature_bytes, method_bytes}
use Rattle.rules.specs.Model.{Instr, decode, instructions}
use Rattle.rules.proofs.Lists.{and_left, and_right}
use Rattle.rules.proofs.Opening.{Rules, Sections, sections}

-- what a record of a sequence says of its own list
module _ (start size before n end k : ℕ) (rule : in_sequence start size before n end k ≡ true) where
  pub sequence_begins : start ≡ before
  unfolding in_sequence
  sequence_begins = eqb-true start before (search (and_left, and_right))

  pub sequence_fits : start + size ≤ end
  unfolding in_sequence
  sequence_fits = leb-true (start + size) end (search (and_left, and_right))

pub class_sequence : (b : List ℕ) (c : ℕ) → class_rule b c ≡ true → sequence_rule (list_offset b) (list_length b) (class_count b) (extent b parent_section) c ≡ true
unfolding class_rule
class_sequence b c e = search (and_left, and_right)

pub method_sequence : (b : List ℕ) (m : ℕ) → method_rule b m ≡ true → sequence_rule (body_offset b) (body_length b) (method_count b) (extent b code_section) m ≡ true
unfolding method_rule
method_sequence b m e = search (and_left, and_right) depth 9

-- a part of the bundle, by the bytes from its place on
pub part_at : (b : List ℕ) (at n i : ℕ) → i < n → get_or (part b at n) i 0 ≡ byte b (at + i)
unfolding part byte
part_at b at n i l = get_or-take n (drop at b) i 0 l ∙ get_or-drop at b i 0

pub part_length : (b : List ℕ) (at n : ℕ) → at + n ≤ length b → length (part b at n) ≡ n
unfolding part
part_length b at n h = length-take-le n (drop at b) (simp length-drop (omega arith))

pub rules_sections : (b : List ℕ) → Rules b → Sections b
rules_sections b r = sections b r.size r.chain

-- each section, record, list and body lies within the bundle, so each part read from it is as long as it says
module _ (b : List ℕ) (r : Rules b) where
  pub signature_within : (s : ℕ) → s < signature_count b → signature_at b s + signature_bytes ≤ offset b method_section
  unfolding signature_at signature_count
  signature_within s h = let p = rules_sections b r in omega arith

  pub method_within : (m : ℕ) → m < method_count b → method_at b m + method_bytes ≤ offset b code_section
  unfolding method_at method_count
  method_within m h = let s = rules_sections b r in omega arith

  pub list_within : (c : ℕ) → c < class_count b → offset b parent_section + list_offset b c + list_length b c ≤ offset b function_section
  list_within c h =
      let s = rules_sections b r in
      let f = sequence_fits _ _ _ _ _ _ (class_sequence b c (r.of_class c h)) in
      omega arith

  pub body_within : (m : ℕ) → m < method_count b → offset b code_section + body_offset b m + body_length b m ≤ length b
  body_within m h =
      let s = rules_sections b r in
      let f = sequence_fits _ _ _ _ _ _ (method_sequence b m (r.of_method m h)) in
      omega arith

  pub parents_length : (c : ℕ) → c < class_count b → length (parents_of b c) ≡ list_length b c
  unfolding parents_of
  parents_length c h = part_length b (offset b parent_section + list_offset b c) (list_length b c) (omega (arith, list_within c h, rules_sections b r))

  pub code_length : (m : ℕ) → m < method_count b → length (code_of b m) ≡ body_length b m
  unfolding code_of
  code_length m h = part_length b (offset b code_section + body_offset b m) (body_length b m) (body_within m h)

  pub sig_tuple_length : (s : ℕ) → s < signature_count b → length (sig_tuple_of b s) ≡ places
  unfolding sig_tuple_of
  sig_tuple_length s h = part_length b (sig_tuple_at b s) places (omega (arith, signature_within s h, rules_sections b r))

  pub specialiser_tuple_length : (m : ℕ) → m < method_count b → length (specialiser_tuple_of b m) ≡ places
  unfolding specialiser_tuple_of
  specialiser_tuple_length m h = part_length b (specialiser_tuple_at b m) places (omega (arith, method_within m h, rules_sections b r))

  pub declared_tuple_length : (m : ℕ) → m < method_count b → length (declared_tuple_of b m) ≡ places
  unfolding declared_tuple_of
  declared_tuple_length m h = part_length b (declared_tuple_at b m) places (omega (arith, method_within m h, rules_sections b r))

zeros_read_zero : (t : List ℕ) → every (λ c. eqb c 0) t ≡ true → (i : ℕ) → get_or t i 0 ≡ 0
unfolding every
zeros_read_zero [] e i = refl
zeros_read_zero (x ∷ t) e zero = eqb-true x 0 (and_left (eqb x 0) (every (λ c. eqb c 0) t) e)
zeros_read_zero (x ∷ t) e (suc i) = zeros_read_zero t (and_right (eqb x 0) (every (λ c. eqb c 0) t) e) i

zeros_cut : (n : ℕ) (t : List ℕ) → every (λ c. eqb c 0) (drop n t) ≡ true → (i : ℕ) → get_or (take n t) i 0 ≡ get_or t i 0
zeros_cut zero t e i = sym (zeros_read_zero t e i)
zeros_cut (suc n) [] e i = refl
zeros_cut (suc n) (x ∷ t) e zero = refl
zeros_cut (suc n) (x ∷ t) e (suc i) = zeros_cut n t e i

-- unused places of a tuple are 0, so its used places read as the whole does
pub used_places_read : (classes n : ℕ) (t : List ℕ) → tuple_rule classes n t ≡ true → (i : ℕ) → get_or (take n t) i 0 ≡ get_or t i 0
unfolding tuple_rule
used_places_read classes n t e = zeros_cut n t (search (and_left, and_right))

-- two bytes to an instruction
pub instructions_length : (bytes : List ℕ) → length (instructions bytes) ≡ length bytes / 2
unfolding instructions
instructions_length [] = refl
instructions_length (x ∷ []) = refl
instructions_length (x ∷ y ∷ rest) = omega (arith, instructions_length rest)

pub instructions_read : (bytes : List ℕ) (i : ℕ) (d : Instr) → 2 * i + 1 < length bytes
    → get_or (instructions bytes) i d ≡ decode (get_or bytes (2 * i) 0) (get_or bytes (2 * i + 1) 0)
unfolding instructions
instructions_read [] i d h = absurd (omega arith)
instructions_read (x ∷ []) i d h = absurd (omega arith)
instructions_read (x ∷ y ∷ rest) zero d h = refl
instructions_read (x ∷ y ∷ rest) (suc i) d h =
    let even : 2 * suc i ≡ suc (suc (2 * i)) = omega arith in
    let odd : 2 * suc i + 1 ≡ suc (suc (2 * i + 1)) = omega arith in
    rw (odd, even) (instructions_read rest i d (omega arith))
