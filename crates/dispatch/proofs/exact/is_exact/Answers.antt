use Rattle.std.proofs.Common.{sym, ap, eqb, length, ◌∙◌}
use Rattle.rules.specs.Bounded.{matching}
use Rattle.rules.specs.Lookup.{exact}
use Rattle.subclasses.proofs.Asked.{specialisers_long}
use Rattle.dispatch.proofs.exact.is_exact.Goals as goal

pub each_same-requires : goal.each_same-requires
each_same-requires c = sym (ap length c.specialisers.ensures.result_value ∙ specialisers_long c.args.bundle.now.opened c.requires.of_arity)

pub returns : goal.returns
unfolding exact
returns c = c.each_same.ensures ∙ ap (matching eqb _) c.specialisers.ensures.result_value
