-- A refusal is the call's, and what is read of the method's code is what stands at that position of the model's body.
use borrow.Author.Rules.{rules}
use Prim.Native.Nat.{ℕ}
use mathlib.Core.Path.{sym, ap, ◌∙◌}
use mathlib.Core.List.{List}
use Rattle.std.proofs.lemmas.Result.{err_from_is_err_and}
use Rattle.rules.specs.Layout.{gives}
use Rattle.reader.specs.Reader.{reading_at}
use Rattle.curiumtoad.proofs.Reading.{instruction_refused, instruction_absent, instruction_given}
use Rattle.curiumtoad.proofs.instruction.nth_instruction.Goals as goal

pub returns-in_err-bundle : goal.returns-in_err-bundle
returns-in_err-bundle c =
    let p = err_from_is_err_and c.from_residual.result c.from_residual.ensures.1 in
    rw (p.1, p.2) (sym (instruction_refused c.args.bundle.now c.args.method c.args.n _ c.in_err-bundle.ensures.opens))

pub returns-then-bundle-method : goal.returns-then-bundle-method
returns-then-bundle-method c = sym (instruction_absent c.args.bundle.now c.args.method c.args.n c.in_ok-bundle.ensures.opens (search rules))

pub returns : goal.returns
returns c =
    let code = rw c.in_ok-bundle.ensures.same_bytes at c.code_of.ensures.result_value in
    ap gives (c.nth_reading.ensures ∙ ap (λ (x : List ℕ). reading_at x c.args.n) code)
    ∙ sym (instruction_given c.args.bundle.now c.args.method c.args.n c.in_ok-bundle.ensures.opens (search rules))
