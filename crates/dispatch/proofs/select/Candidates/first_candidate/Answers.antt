use Rattle.dispatch.proofs.Listed.{candidate_at}
use Rattle.dispatch.proofs.select.Candidates.first_candidate.Goals as goal

pub as_specific-requires-clause-of_arity : goal.as_specific-requires-clause-of_arity
as_specific-requires-clause-of_arity c = rw c.from-m.ensures (candidate_at c.args.self.now.candidates c.loop-i.i c.loop-i-test.true)

pub as_specific-requires-clause-of_arity_2 : goal.as_specific-requires-clause-of_arity_2
as_specific-requires-clause-of_arity_2 c = rw c.from-o.ensures (candidate_at c.args.self.now.candidates c.loop-i.held c.loop-i.invariant)
