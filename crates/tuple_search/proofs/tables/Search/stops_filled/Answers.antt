-- A tuple with every place filled is one of arguments.
-- Assumes nothing.
use Rattle.tuple_search.proofs.Narrowing.{filled_arguments}
use Rattle.tuple_search.proofs.tables.Search.stops_filled.Goals as goal

pub stops_at-requires-clause-arguments : goal.stops_at-requires-clause-arguments
stops_at-requires-clause-arguments c = filled_arguments c.args.self.now.indexed.now.prepared.prepared.opened c.requires.filling
