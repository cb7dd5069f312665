use Rattle.std.proofs.Common.{arith}
use Rattle.layout.proofs.Opened.{counts_of, wellformed_of}
use Rattle.layout.proofs.Readings.{body_counted}
use Rattle.layout.proofs.open.OpenBundle.size.Goals as goal

pub returns : goal.returns
returns c =
    let o = c.args.self.now.opened in
    let counts = counts_of o in
    let well = wellformed_of o in
    let counted = body_counted o c.args.m c.requires in
    let same = rw c.records.ensures.0 at c.body_length.ensures.0 in
    (omega arith, omega (arith, well.body_some c.args.m (omega arith)), omega (arith, well.body_limit c.args.m (omega arith)))
