-- What the operand of an instruction of an opened bundle names.
-- Assumes nothing.
use Prim.Native.Nat.{ℕ, ◌<◌}
use native.Mathlib.Omega.{arith}
use mathlib.Core.Path.{◌≡◌}
use mathlib.Core.Bool.{true}
use mathlib.Core.List.{List}
use borrow.Author.Tests.{ltb-true}
use Rattle.rules.specs.Layout.{places}
use Rattle.rules.specs.Model.{Instr, arg, new, send, model_of, operand_rule}
use Rattle.layout.specs.Opened.{Opened}
use Rattle.layout.specs.declared.bundle.Bundle.{Bundle}
use Rattle.layout.proofs.Opened.{wellformed_of, counts_of}

module _ {bytes : List ℕ} {b : Bundle} (o : Opened bytes b) (m : ℕ) (h : m < b.methods) (i : Instr)
    (rule : operand_rule (model_of bytes) ((model_of bytes).arity ((model_of bytes).function m)) i ≡ true) where
  pub operand_arg : (place : ℕ) → i ≡ arg place → place < places
  unfolding operand_rule
  operand_arg place e =
      let w = wellformed_of o in
      let counts = counts_of o in
      let few = w.arity_limit ((model_of bytes).function m) (w.function_present m (omega arith)) in
      let below = ltb-true place ((model_of bytes).arity ((model_of bytes).function m)) (rw e at rule) in
      omega arith

  pub operand_new : (c : ℕ) → i ≡ new c → c < b.classes
  unfolding operand_rule
  operand_new c e =
      let counts = counts_of o in
      let below = ltb-true c (model_of bytes).classes (rw e at rule) in
      omega arith

  pub operand_send : (f : ℕ) → i ≡ send f → f < b.functions
  unfolding operand_rule
  operand_send f e =
      let counts = counts_of o in
      let below = ltb-true f (model_of bytes).functions (rw e at rule) in
      omega arith
