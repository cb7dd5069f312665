use Rattle.std.proofs.Common.{arith}
use Rattle.rules.specs.Model.{model_of}
use Rattle.layout.proofs.Opened.{counts_of, wellformed_of}
use Rattle.layout.proofs.open.OpenBundle.arity.Goals as goal

pub returns : goal.returns
unfolding model_of
returns c =
    let o = c.args.self.now.opened in
    let counts = counts_of o in
    let read = rw c.records.ensures.0 at c.arity.ensures in
    (read, omega (arith, (wellformed_of o).arity_limit c.args.f (omega arith)))
