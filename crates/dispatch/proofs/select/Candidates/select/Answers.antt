use Rattle.std.proofs.Common.{arith, sym, ◌∙◌}
use borrow.Author.Tests.{eqb-true}
use Rattle.rules.specs.Lookup as rules
use Rattle.layout.specs.Bundles.{model}
use Rattle.rules.proofs.Lists.{none_places}
use Rattle.layout.proofs.Opened.{wellformed_of}
use Rattle.dispatch.proofs.Listed.{each_method, candidate_at, leader_selected, empty_selected}
use Rattle.dispatch.proofs.Rivals.{Unled, last_there, next_there, both_named}
use Rattle.dispatch.proofs.select.Candidates.select.Goals as goal
use Rattle.dispatch.proofs.select.Candidates.select.Goals.{After-loop-m}

pub returns-then-is_empty : goal.returns-then-is_empty
returns-then-is_empty c = sym (empty_selected _ _ (eqb-true _ _ (sym c.is_empty.ensures ∙ c.if-is_empty.true)))

pub leads-requires : goal.leads-requires
leads-requires c =
    rw c.from-m.ensures (candidate_at c.args.self.now.candidates c.first_candidate-candidate.result c.first_candidate-candidate.ensures)

pub returns-then-leads : goal.returns-then-leads
returns-then-leads c =
    let p = c.requires in
    let first = c.first_candidate-candidate in
    leader_selected c.args.self.now.prepared.now.bundle.opened c.args.self.now.candidates first.result first.ensures c.from-m.ensures (sym c.leads.ensures ∙ c.if-leads.true)

pub leads-requires-in-loop-m : goal.leads-requires-in-loop-m
leads-requires-in-loop-m c = rw c.from-m-in-loop-m.ensures (candidate_at c.args.self.now.candidates c.loop-m.m-index c.loop-m-test.true)

pub returns-then-leads-2 : goal.returns-then-leads-2
returns-then-leads-2 c =
    let p = c.requires in
    leader_selected c.args.self.now.prepared.now.bundle.opened c.args.self.now.candidates c.loop-m.m-index c.loop-m-test.true c.from-m-in-loop-m.ensures (sym c.leads-in-loop-m.ensures ∙ c.if-leads-2.true)

-- past the search nothing leads
unled : (c : After-loop-m) → let a = c.args in Unled (model a.self.now.prepared.now.bundle) a.self.now.f a.self.now.list.now
unled c =
    let ms = c.args.self.now.list.now in
    record {
      formed = wellformed_of c.args.self.now.prepared.now.bundle.opened;
      each = each_method c.args.self.now.candidates.methods;
      some = omega (arith, c.first_candidate-candidate.ensures);
      free = none_places (rules.leads (model c.args.self.now.prepared.now.bundle) ms) ms 0 (λ k r. c.loop-m.invariant k (omega arith));
    }

pub last_rival-last-requires-clause-nonzero : goal.last_rival-last-requires-clause-nonzero
last_rival-last-requires-clause-nonzero c = last_there (unled c)

pub last_rival-before-requires-clause-nonzero : goal.last_rival-before-requires-clause-nonzero
last_rival-before-requires-clause-nonzero c = next_there (unled (goal.at.last_rival-before-requires-clause-nonzero c).After-loop-m) c.last_rival-last.ensures

pub returns : goal.returns
returns c =
    both_named (unled (goal.at.returns c).After-loop-m) c.last_rival-last.ensures c.last_rival-before.ensures c.from-newest.ensures c.from-next.ensures
