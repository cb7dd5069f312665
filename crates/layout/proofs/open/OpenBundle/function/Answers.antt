use Rattle.std.proofs.Common.{arith}
use Rattle.rules.specs.Model.{model_of}
use Rattle.layout.proofs.Opened.{counts_of, wellformed_of}
use Rattle.layout.proofs.open.OpenBundle.function.Goals as goal

pub returns : goal.returns
unfolding model_of
returns c =
    let o = c.args.self.now.opened in
    let counts = counts_of o in
    let read = rw c.records.ensures.0 at c.function.ensures in
    (read, omega (arith, (wellformed_of o).function_present c.args.m (omega arith)))
