-- A refusal leaves the scratch as it was, and otherwise it holds the matrix.
use borrow.Author.Rules.{rules}
use mathlib.Core.Path.{refl, sym, ap, ◌∙◌}
use Rattle.std.specs.Prelude.{List, ℕ}
use Rattle.std.specs.Borrow.{Bor}
use Rattle.std.proofs.lemmas.Result.{err_from_is_err_and}
use Rattle.preparation.proofs.Called.{unopened, short, enough}
use Rattle.preparation.proofs.begin.begin.Goals as goal

pub returns-in_err-bundle-clause-begins : goal.returns-in_err-bundle-clause-begins
returns-in_err-bundle-clause-begins c =
    let p = err_from_is_err_and c.from_residual.result c.from_residual.ensures.1 in
    let r = unopened c.args.bundle.now c.args.scratch.now c.in_err-bundle.ensures.opens.answer in
    rw (p.1, p.2) (record { said = r.0; filled = r.1; bytes = tt; prepared = tt; early = tt })

pub returns-then-scratch-lt-BYTES-clause-begins : goal.returns-then-scratch-lt-BYTES-clause-begins
returns-then-scratch-lt-BYTES-clause-begins c =
    let r = short c.args.bundle.now c.args.scratch.now c.in_ok-bundle.ensures.opens.answer (search rules) in
    record { said = r.0; filled = r.1; bytes = tt; prepared = tt; early = tt }

pub returns-clause-begins : goal.returns-clause-begins
returns-clause-begins c =
    let b = c.in_ok-bundle.bundle in
    let bytes = ap (λ (x : Bor (List ℕ)). x.now) c.in_ok-bundle.ensures.same_bytes in
    let r = enough b.bytes.now c.args.scratch.now (rw (sym bytes) at c.in_ok-bundle.ensures.opens.answer) (search rules) in
    rw (← bytes) (record { said = r.0; filled = c.fill.ensures.written ∙ r.1; bytes = refl; prepared = record { opened = b.opened; filled = c.fill.ensures.filled }; early = tt })
