use Rattle.std.proofs.Common.{arith, sym, ◌∙◌}
use borrow.Author.Tests.{ne_eqb}
use Rattle.rules.specs.Lookup.{leads}
use Rattle.rules.proofs.Lists.{or_none, every_places, every_broken}
use Rattle.dispatch.proofs.Listed.{candidate_at}
use Rattle.dispatch.proofs.select.Candidates.leads.Goals as goal

pub as_specific-requires-clause-of_arity_2 : goal.as_specific-requires-clause-of_arity_2
as_specific-requires-clause-of_arity_2 c = rw c.from-o.ensures (candidate_at c.args.self.now.candidates c.loop-o.o-index c.loop-o-test.true)

pub returns-then-not-as_specific : goal.returns-then-not-as_specific
unfolding leads
returns-then-not-as_specific c =
    let o = c.from-o.ensures in
    sym (every_broken _ _ 0 c.loop-o.o-index c.loop-o-test.true
    (or_none _ _ (ne_eqb _ _ (rw o at c.if-o-m.true)) (rw o at (sym c.as_specific.ensures ∙ c.if-not-as_specific.true))))

pub returns : goal.returns
unfolding leads
returns c = sym (every_places _ _ 0 (λ k l. c.loop-o.invariant k (omega arith)))
