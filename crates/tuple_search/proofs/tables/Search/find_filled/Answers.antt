-- A method that leads the set is what lookup finds.
-- Assumes nothing.
use Rattle.layout.proofs.Opened.{wellformed_of}
use Rattle.tuple_search.proofs.Known.{tables_of}
use Rattle.tuple_search.proofs.Leading.{lead_found}
use Rattle.tuple_search.proofs.Narrowing.{filled_arguments, filling_places}
use Rattle.tuple_search.proofs.tables.Search.find_filled.Goals as goal

pub lead_of-requires-clause-n_le_places : goal.lead_of-requires-clause-n_le_places
lead_of-requires-clause-n_le_places c = filling_places c.args.self.now.indexed.now.prepared.prepared.opened c.requires.filling

pub lookup-requires : goal.lookup-requires
lookup-requires c = rw c.function-f.ensures (filled_arguments c.args.self.now.indexed.now.prepared.prepared.opened c.requires.filling)

pub returns-in-Some : goal.returns-in-Some
returns-in-Some c =
    let p = c.requires in
    let t = tables_of c.args.self.now.goes_by in
    let o = c.args.self.now.indexed.now.prepared.prepared.opened in
    lead_found (wellformed_of o) t.ordered p.filling t.admitting (filling_places o p.filling) c.in-Some.m c.in-Some.ensures
