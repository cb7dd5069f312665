use Rattle.std.proofs.Common.{arith}
use Rattle.layout.proofs.Lists.{placed_listed, parents_counted, parents_few}
use Rattle.layout.proofs.open.ListedBundle.parent_count.Goals as goal

pub returns : goal.returns
returns c =
    let l = c.args.self.now.listed in
    let same = rw c.records.ensures.0 at c.parent_count.ensures.0 in
    let counted = parents_counted l c.args.c c.requires in
    let placed = placed_listed l in
    (cc, omega (arith, parents_few l c.args.c c.requires))
