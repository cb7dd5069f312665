use Rattle.subclasses.proofs.Tuples.{padded_put}
use Rattle.subclasses.proofs.tuple.padded_tuple.Goals as goal

pub returns : goal.returns
returns c = rw c.copy_from_slice.ensures.after (padded_put c.args.args.now c.requires)
