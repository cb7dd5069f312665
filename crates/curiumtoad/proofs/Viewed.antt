-- The answers of a call that takes a method and no scratch, and those of the body view.
-- Assumes nothing.
use Prim.Native.Nat.{ℕ, ◌≤◌, ◌<◌}
use mathlib.Core.Path.{◌≡◌, sym, ◌∙◌}
use mathlib.Core.List.{List, []}
use lib.Dec.{ltb}
use borrow.Author.Tests.{lt-ltb, le-ltb}
use Rattle.rules.specs.Numbers as numbers
use Rattle.rules.specs.Layout.{Answer, gives, refuses, require, code_of}
use Rattle.rules.specs.Model.{Model, model_of}
use Rattle.rules.specs.Calls.{when_open, body_view_call}
use Rattle.answers.specs.declared.opening.LayoutFinding.{LayoutFinding}
use Rattle.std.specs.Prelude.{Ok, Err}
use Rattle.layout.specs.declared.bundle.Bundle.{Bundle}
use Rattle.answers.specs.Opening.{layout_number, layout_values, Opens}
use Rattle.layout.proofs.Opened.{counts_of}
use Rattle.bundle_rules.proofs.Opened.{opened_of}
use Rattle.preparation.proofs.Called.{not_opened, when_opened}

-- A call that takes a method and no scratch: 18 where the method is absent, else what it says of the model.
module _ {A : Type 0} (b : List ℕ) (m : ℕ) (call : Model → Answer A) where
  pub method_absent : {t : Bundle} → Opens b (Ok t) → t.methods ≤ m
      → when_open b (λ M. require (ltb m M.methods) numbers.absent (call M)) ≡ refuses numbers.absent []
  unfolding require
  method_absent o h =
      when_opened b (λ M. require (ltb m M.methods) numbers.absent (call M)) o
      ∙ rw (le-ltb m (model_of b).methods (rw (sym (counts_of (opened_of o)).methods) h))

  pub method_present : {t : Bundle} → Opens b (Ok t) → m < t.methods
      → when_open b (λ M. require (ltb m M.methods) numbers.absent (call M)) ≡ call (model_of b)
  unfolding require
  method_present o h =
      when_opened b (λ M. require (ltb m M.methods) numbers.absent (call M)) o
      ∙ rw (lt-ltb m (model_of b).methods (rw (sym (counts_of (opened_of o)).methods) h))

-- The three answers of the body view.
module _ (b : List ℕ) (m : ℕ) where
  pub view_refused : (f : LayoutFinding) → Opens b (Err f) → body_view_call b m ≡ refuses (layout_number f) (layout_values f)
  unfolding body_view_call
  view_refused f o = not_opened b (λ M. require (ltb m M.methods) numbers.absent (gives (code_of b m))) f o

  pub view_absent : {t : Bundle} → Opens b (Ok t) → t.methods ≤ m → body_view_call b m ≡ refuses numbers.absent []
  unfolding body_view_call
  view_absent o h = method_absent b m (λ M. gives (code_of b m)) o h

  pub view_given : {t : Bundle} → Opens b (Ok t) → m < t.methods → body_view_call b m ≡ gives (code_of b m)
  unfolding body_view_call
  view_given o h = method_present b m (λ M. gives (code_of b m)) o h
