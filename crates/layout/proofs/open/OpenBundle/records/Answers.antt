use Rattle.layout.proofs.Opened.{placed_of}
use Rattle.layout.proofs.open.OpenBundle.records.Goals as goal

pub invariant_of-result : goal.invariant_of-result
invariant_of-result c = record { placed = placed_of c.args.self.now.opened }
