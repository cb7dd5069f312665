-- Bundles whose classes may stand in any order: a class lists any classes that are there as its parents, and a rule of its own, 28, asks that no class inherits from
-- itself. Opening (`Layout`) asks for parents with lower numbers in place of both; where they are lower, both open alike (`proofs/LowerParents`).
-- No call goes by this file.
-- Assumes nothing.
use Rattle.std.specs.Prelude.{ℕ, ◌+◌, Bool, not, ◌&&◌, List, [], ◌∷◌, leb, ltb, eqb}
use Rattle.std.specs.Bool.{beq}
use Rattle.rules.specs.Numbers as numbers
use Rattle.rules.specs.Bounded.{every}
use Rattle.rules.specs.Bytes.{byte}
use Rattle.rules.specs.Inheritance.{inherits}
use Rattle.rules.specs.Layout.{Answer, gives, require, require_each, lowest, size_rule, chain_rule, whole_rule, limit_rule, sequence_rule, extent, parent_section, class_at, kind_of, list_offset, list_length, parents_of, rises, function_rule, signature_rule, method_rule, twin_rule, code_rule, class_count, function_count, signature_count, method_count}

-- tried after 4 and before 5
abbrev pub class_cycle : ℕ
class_cycle = 28

-- number 4 with parents in any order: kind, filler and list of a class. Parents are classes that are there, and rise; class 0 alone has none
unfoldable pub listed_rule : List ℕ → ℕ → Bool
listed_rule b c =
    leb (kind_of b c) 1
    && eqb (byte b (class_at b c + 1)) 0
    && sequence_rule (list_offset b) (list_length b) (class_count b) (extent b parent_section) c
    && every (λ p. ltb p (class_count b)) (parents_of b c)
    && rises (parents_of b c)
    && beq (eqb c 0) (eqb (list_length b c) 0)

-- number 28: a class does not inherit from itself
unfoldable pub cycle_rule : List ℕ → ℕ → Bool
cycle_rule b c = not (inherits (parents_of b) (class_count b) c c)

-- Opening by these: the rules one after the other, 28 behind 4 and else in the order of their numbers, each decided for the whole bundle before the next.
unfoldable pub any_order_opening : List ℕ → Answer (List ℕ)
any_order_opening b =
    require (size_rule b) numbers.bad_length
    (require (chain_rule b && whole_rule b) numbers.bad_directory
    (require (limit_rule b) numbers.bad_counts
    (require_each (lowest (listed_rule b) (class_count b)) numbers.bad_class
    (require_each (lowest (cycle_rule b) (class_count b)) class_cycle
    (require_each (lowest (function_rule b) (function_count b)) numbers.bad_function
    (require_each (lowest (signature_rule b) (signature_count b)) numbers.bad_signature
    (require_each (lowest (method_rule b) (method_count b)) numbers.bad_method
    (require_each (lowest (twin_rule b) (method_count b)) numbers.twin_method
    (require_each (lowest (code_rule b) (method_count b)) numbers.bad_code
    (gives (class_count b ∷ function_count b ∷ signature_count b ∷ method_count b ∷ [])))))))))))
