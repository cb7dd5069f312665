use Rattle.std.proofs.Common.{arith}
use Rattle.layout.proofs.Opened.{placed_of}
use Rattle.layout.proofs.Readings.{parents_counted, parents_few}
use Rattle.layout.proofs.open.OpenBundle.parent_count.Goals as goal

pub returns : goal.returns
returns c =
    let o = c.args.self.now.opened in
    let same = rw c.records.ensures.0 at c.parent_count.ensures.0 in
    let counted = parents_counted o c.args.c c.requires in
    let placed = placed_of o in
    (cc, omega (arith, parents_few o c.args.c c.requires))
