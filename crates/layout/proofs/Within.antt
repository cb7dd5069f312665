-- The records of a bundle that keeps the rules on its size, its directory and its counts lie within it.
-- Assumes nothing.
use Prim.Native.Nat.{ℕ, ◌≤◌}
use native.Mathlib.Omega.{arith}
use mathlib.Core.Path.{◌≡◌}
use mathlib.Core.Bool.{true}
use mathlib.Core.List.{List}
use lib.Dec.{leb}
use lib.ListN.{length}
use borrow.Author.Tests.{leb-true}
use Rattle.rules.specs.Layout.{size_rule, chain_rule, limit_rule, class_count, function_count, signature_count, method_count, max_classes, max_functions, max_signatures, max_methods}
use Rattle.rules.proofs.Lists.{and_left, and_right}
use Rattle.rules.proofs.Opening.{sections}
use Rattle.layout.specs.declared.bundle.Bundle.{Bundle}
use Rattle.layout.specs.Tables.{Tables, Placed}

pub long : (b : List ℕ) → size_rule b ≡ true → 24 ≤ length b
unfolding size_rule
long b size = leb-true 24 (length b) (and_left (leb 24 (length b)) (leb (length b) 65535) size)

module _ (b : List ℕ) (t : Bundle) (tables : Tables b t) (size : size_rule b ≡ true) (chain : chain_rule b ≡ true) (limit : limit_rule b ≡ true) where
  pub within : Placed b t
  unfolding limit_rule class_count function_count signature_count method_count
  within =
      let p = sections b size chain in
      let classes = leb-true (class_count b) max_classes (search (and_left, and_right)) in
      let functions = leb-true (function_count b) max_functions (search (and_left, and_right)) in
      let signatures = leb-true (signature_count b) max_signatures (search (and_left, and_right)) in
      let methods = leb-true (method_count b) max_methods (search (and_left, and_right)) in
      record {
        tables = tables;
        short = p.short;
        classes_limit = omega arith;
        functions_limit = omega arith;
        signatures_limit = omega arith;
        methods_limit = omega arith;
        class_end = omega arith;
        parent_end = omega arith;
        function_end = omega arith;
        signature_end = omega arith;
        method_end = omega arith;
        code_end = omega arith;
      }
