-- The opened bundle as the other rules see it: counts and accessors, argument places as lists. Only `model_of` knows the bytes.
-- Assumes nothing.
use Rattle.std.specs.Prelude.{ℕ, zero, suc, ◌<◌, ◌≤◌, ◌≡◌, Bool, true, List, [], ◌∷◌, ltb, eqb, length, take}
use Rattle.rules.specs.Bounded.{every}
use Rattle.rules.specs.Layout.{class_count, function_count, signature_count, method_count, kind_of, parents_of, arity_of, sig_function_of, sig_tuple_of, sig_result_of, function_of, specialiser_tuple_of, declared_tuple_of, result_of, code_of, max_classes, max_functions, max_signatures, max_methods, places}

-- the four instructions, with an argument place, a class and a function; a resend has nothing beside it (M 2.8)
pub data Instr : Type 0 where
  arg : ℕ → Instr
  new : ℕ → Instr
  send : ℕ → Instr
  resend : Instr

-- Classes, functions, signatures and methods are numbers from 0. A list by places is as long as the function has arguments.
pub record Model : Type 0 where
  pub classes : ℕ
  pub functions : ℕ
  pub signatures : ℕ
  pub methods : ℕ
  pub concrete : ℕ → Bool
  pub parents : ℕ → List ℕ
  pub arity : ℕ → ℕ
  pub sig_function : ℕ → ℕ
  pub sig_args : ℕ → List ℕ
  pub sig_result : ℕ → ℕ
  pub function : ℕ → ℕ
  pub specialisers : ℕ → List ℕ
  pub declared : ℕ → List ℕ
  pub result : ℕ → ℕ
  pub body : ℕ → List Instr

-- Number 9 refuses every other operation, and what stands for it here: ARG of a place that no method has. It refuses a RESEND whose operand is not 0, so the
-- operand says nothing.
unfoldable pub decode : ℕ → ℕ → Instr
decode zero operand = arg operand
decode (suc zero) operand = new operand
decode (suc (suc zero)) operand = send operand
decode (suc (suc (suc zero))) operand = resend
decode (suc (suc (suc (suc n)))) operand = arg places

unfoldable pub instructions : List ℕ → List Instr
instructions [] = []
instructions (x ∷ []) = []
instructions (x ∷ y ∷ rest) = decode x y ∷ instructions rest

unfoldable pub model_of : List ℕ → Model
model_of b =
    record {
      classes = class_count b;
      functions = function_count b;
      signatures = signature_count b;
      methods = method_count b;
      concrete = λ c. eqb (kind_of b c) 1;
      parents = parents_of b;
      arity = arity_of b;
      sig_function = sig_function_of b;
      sig_args = λ s. take (arity_of b (sig_function_of b s)) (sig_tuple_of b s);
      sig_result = sig_result_of b;
      function = function_of b;
      specialisers = λ m. take (arity_of b (function_of b m)) (specialiser_tuple_of b m);
      declared = λ m. take (arity_of b (function_of b m)) (declared_tuple_of b m);
      result = result_of b;
      body = λ m. instructions (code_of b m);
    }

-- every class of the list is one of the bundle's
unfoldable pub present : Model → List ℕ → Bool
present M = every (λ c. ltb c M.classes)

-- the operand of an instruction of a method with that many arguments names what is there
unfoldable pub operand_rule : Model → ℕ → Instr → Bool
operand_rule M n (arg i) = ltb i n
operand_rule M n (new c) = ltb c M.classes
operand_rule M n (send f) = ltb f M.functions
operand_rule M n resend = true

-- What opening gives, as facts about the model.
pub record Wellformed (M : Model) : Type 0 where
  pub classes_some : 0 < M.classes
  pub classes_limit : M.classes ≤ max_classes
  pub functions_limit : M.functions ≤ max_functions
  pub signatures_limit : M.signatures ≤ max_signatures
  pub methods_limit : M.methods ≤ max_methods
  pub parents_lower : (c : ℕ) → c < M.classes → every (λ p. ltb p c) (M.parents c) ≡ true
  pub root_alone : M.parents 0 ≡ []
  pub parents_some : (c : ℕ) → c < M.classes → 0 < c → 0 < length (M.parents c)
  pub arity_limit : (f : ℕ) → f < M.functions → M.arity f ≤ places
  pub sig_function_lem : (s : ℕ) → s < M.signatures → M.sig_function s < M.functions
  pub sig_places : (s : ℕ) → s < M.signatures → length (M.sig_args s) ≡ M.arity (M.sig_function s)
  pub sig_present : (s : ℕ) → s < M.signatures → present M (M.sig_args s) ≡ true
  pub sig_result_lem : (s : ℕ) → s < M.signatures → M.sig_result s < M.classes
  pub function_present : (m : ℕ) → m < M.methods → M.function m < M.functions
  pub specialiser_places : (m : ℕ) → m < M.methods → length (M.specialisers m) ≡ M.arity (M.function m)
  pub specialisers_present : (m : ℕ) → m < M.methods → present M (M.specialisers m) ≡ true
  pub declared_places : (m : ℕ) → m < M.methods → length (M.declared m) ≡ M.arity (M.function m)
  pub declared_present : (m : ℕ) → m < M.methods → present M (M.declared m) ≡ true
  pub result_present : (m : ℕ) → m < M.methods → M.result m < M.classes
  pub no_twins : (m n : ℕ) → m < M.methods → n < m → M.function m ≡ M.function n → M.specialisers m ≡ M.specialisers n → ⊥
  pub body_some : (m : ℕ) → m < M.methods → 0 < length (M.body m)
  pub body_limit : (m : ℕ) → m < M.methods → length (M.body m) ≤ 64
  pub body_operands : (m : ℕ) → m < M.methods → every (operand_rule M (M.arity (M.function m))) (M.body m) ≡ true
