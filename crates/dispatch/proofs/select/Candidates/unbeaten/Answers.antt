use Rattle.std.proofs.Common.{arith, not, sym, ap, ◌∙◌}
use borrow.Author.Tests.{ne_eqb}
use Rattle.rules.specs.Lookup.{unbeaten}
use Rattle.rules.proofs.Lists.{or_none, every_places, every_broken}
use Rattle.dispatch.proofs.Listed.{candidate_at}
use Rattle.dispatch.proofs.select.Candidates.unbeaten.Goals as goal

pub as_specific-requires-clause-of_arity : goal.as_specific-requires-clause-of_arity
as_specific-requires-clause-of_arity c = rw c.from-o.ensures (candidate_at c.args.self.now.candidates c.loop-o.o-index c.loop-o-test.true)

pub returns-then-as_specific : goal.returns-then-as_specific
unfolding unbeaten
returns-then-as_specific c =
    let o = c.from-o.ensures in
    sym (every_broken _ _ 0 c.loop-o.o-index c.loop-o-test.true
    (or_none _ _ (ne_eqb _ _ (rw o at c.if-o-m.true)) (ap not (rw o at (sym c.as_specific.ensures ∙ c.if-as_specific.true)))))

pub returns : goal.returns
unfolding unbeaten
returns c = sym (every_places _ _ 0 (λ k l. c.loop-o.invariant k (omega arith)))
