-- What a method's rule says by itself of its function and its body.
-- Assumes nothing.
use Prim.Native.Nat.{ℕ, ◌+◌, ◌*◌, ◌/◌, ◌%◌, ◌≤◌, ◌<◌}
use native.Mathlib.Omega.{arith}
use mathlib.Core.Path.{◌≡◌}
use mathlib.Core.Bool.{true}
use mathlib.Core.List.{List}
use borrow.Author.Tests.{ltb-true, eqb-true}
use Rattle.rules.specs.Layout.{extent, code_section, function_of, function_count, body_offset, body_length, method_rule}
use Rattle.rules.proofs.Lists.{and_left, and_right}
use Rattle.rules.proofs.Places.{sequence_fits, method_sequence}

module _ (b : List ℕ) (m : ℕ) (rule : method_rule b m ≡ true) where
  pub method_function : function_of b m < function_count b
  unfolding method_rule
  method_function = ltb-true (function_of b m) (function_count b) (search (and_left, and_right) depth 9)

  pub body_fits : body_offset b m + body_length b m ≤ extent b code_section
  body_fits = sequence_fits _ _ _ _ _ _ (method_sequence b m rule)

  pub body_even : 2 * (body_length b m / 2) ≡ body_length b m
  unfolding method_rule
  body_even =
      let even : body_length b m % 2 ≡ 0 = eqb-true (body_length b m % 2) 0 (search (and_left, and_right) depth 9) in
      omega arith
