use Rattle.layout.proofs.Lists.{placed_listed}
use Rattle.layout.proofs.open.ListedBundle.records.Goals as goal

pub invariant_of-result : goal.invariant_of-result
invariant_of-result c = record { placed = placed_listed c.args.self.now.listed }
