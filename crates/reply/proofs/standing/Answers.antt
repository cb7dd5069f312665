-- `reply::standing`: case by case, each as the rules call it.
-- Assumes nothing.
use borrow.Author.Rules.{rules}
use Rattle.subclasses.specs.Ancestry.{ancestry_of}
use Rattle.reply.proofs.standing.Goals as goal

pub returns-in-Same : goal.returns-in-Same
unfolding ancestry_of
returns-in-Same c = search rules

pub returns-in-Heir : goal.returns-in-Heir
unfolding ancestry_of
returns-in-Heir c = search rules

pub returns-in-Neither : goal.returns-in-Neither
unfolding ancestry_of
returns-in-Neither c = search rules
