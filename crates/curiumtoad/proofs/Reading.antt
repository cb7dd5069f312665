-- The three answers of the call for one instruction.
-- Assumes nothing.
use Prim.Native.Nat.{ℕ, ◌≤◌, ◌<◌}
use native.Mathlib.Omega.{arith}
use mathlib.Core.Path.{◌≡◌, sym, ap, ◌∙◌}
use mathlib.Core.List.{List, []}
use lib.Dec.{ltb}
use Rattle.rules.specs.Numbers as numbers
use Rattle.rules.specs.Layout.{gives, refuses, require, code_of, code_rule}
use Rattle.rules.specs.Model.{model_of}
use Rattle.layout.specs.declared.bundle.Bundle.{Bundle}
use Rattle.answers.specs.declared.opening.LayoutFinding.{LayoutFinding}
use Rattle.std.specs.Prelude.{Ok, Err}
use Rattle.answers.specs.Opening.{layout_number, layout_values, Opens}
use Rattle.layout.proofs.Opened.{rules_of, counts_of}
use Rattle.bundle_rules.proofs.Opened.{opened_of}
use Rattle.reader.specs.Reader.{nth, reading_at}
use Rattle.reader.proofs.Positions.{read_instructions}
use Rattle.preparation.proofs.Called.{not_opened}
use Rattle.curiumtoad.specs.Instruction.{instruction_call}
use Rattle.curiumtoad.proofs.Viewed.{method_absent, method_present}

module _ (b : List ℕ) (m n : ℕ) where
  pub instruction_refused : (f : LayoutFinding) → Opens b (Err f)
      → instruction_call b m n ≡ refuses (layout_number f) (layout_values f)
  unfolding instruction_call
  instruction_refused f o = not_opened b (λ M. require (ltb m M.methods) numbers.absent (gives (nth (M.body m) n))) f o

  pub instruction_absent : {t : Bundle} → Opens b (Ok t) → t.methods ≤ m → instruction_call b m n ≡ refuses numbers.absent []
  unfolding instruction_call
  instruction_absent o h = method_absent b m (λ M. gives (nth (M.body m) n)) o h

  pub instruction_given : {t : Bundle} → Opens b (Ok t) → m < t.methods → instruction_call b m n ≡ gives (reading_at (code_of b m) n)
  unfolding instruction_call model_of code_rule
  instruction_given o h =
      let rule = (rules_of (opened_of o)).of_code m (omega (arith, counts_of (opened_of o))) in
      method_present b m (λ M. gives (nth (M.body m) n)) o h ∙ ap gives (sym (read_instructions _ _ _ (code_of b m) rule n))
