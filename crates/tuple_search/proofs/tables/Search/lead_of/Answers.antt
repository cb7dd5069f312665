-- The method at the first position of a set is one of it.
-- Assumes nothing.
use native.Mathlib.Omega.{arith}
use mathlib.Core.Path.{refl}
use Rattle.layout.proofs.Opened.{placed_of, counts_of}
use Rattle.method_sets.specs.Sets.{method_at}
use Rattle.method_sets.proofs.Orders.{method_present}
use Rattle.tuple_search.proofs.Known.{tables_of}
use Rattle.tuple_search.proofs.tables.Search.lead_of.Goals as goal

pub bounds-self-at : goal.bounds-self-at
bounds-self-at c = omega (arith, (placed_of c.args.self.now.indexed.now.prepared.prepared.opened).methods_limit)

pub above_all-requires-clause-m_lt_methods : goal.above_all-requires-clause-m_lt_methods
above_all-requires-clause-m_lt_methods c = method_present c.args.self.now.indexed.now.prepared.prepared.opened (tables_of c.args.self.now.goes_by).ordered c.in_ok-at.at (omega arith)

pub returns : goal.returns
unfolding method_at
returns c =
    let o = c.args.self.now.indexed.now.prepared.prepared.opened in
    let counts = counts_of o in
    let few = (placed_of o).methods_limit in
    let present = method_present o (tables_of c.args.self.now.goes_by).ordered c.in_ok-at.at (omega arith) in
    (omega (arith, present), (c.in_ok-at.at, omega arith, refl, c.in_ok-at.ensures.1.member c.in_ok-at.ensures.0), c.above_all.ensures (c.if-not-above_all.false))
