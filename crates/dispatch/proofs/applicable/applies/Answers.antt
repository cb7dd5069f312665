-- The arguments are compared with the method's specialisers, and then its number with the one left out.
use Rattle.std.proofs.Common.{ℕ, Option, Some, None, not, eqb, ◌≡◌, refl, sym, ◌∙◌}
use Rattle.std.specs.Option.{option_eq}
use Rattle.layout.specs.Bundles.{model}
use Rattle.rules.specs.Lookup.{applies}
use Rattle.subclasses.proofs.Asked.{specialisers_long, specialisers_classes}
use Rattle.dispatch.specs.Listed.{other_than}
use Rattle.dispatch.proofs.applicable.applies.Goals as goal
use Rattle.dispatch.proofs.applicable.applies.Goals.{After-each_under}

pub each_under-requires-clause-above_present : goal.each_under-requires-clause-above_present
each_under-requires-clause-above_present c = rw c.specialisers.ensures.result_value (specialisers_classes c.args.prepared.now.bundle.opened c.requires.of_arity)

pub each_under-requires-clause-as_long : goal.each_under-requires-clause-as_long
each_under-requires-clause-as_long c = rw c.specialisers.ensures.result_value (sym (specialisers_long c.args.prepared.now.bundle.opened c.requires.of_arity))

-- whether the method applies
applying : (c : After-each_under) → let a = c.args in c.each_under.result ≡ applies (model a.prepared.now.bundle) a.args.now a.m
unfolding applies
applying c = rw (← c.specialisers.ensures.result_value) c.each_under.ensures

-- the test of the code is that of the rule
other : (but : Option ℕ) (m : ℕ) → not (option_eq eqb (Some m) but) ≡ other_than but m
other None m = refl
other (Some n) m = refl

pub returns-then-each_under : goal.returns-then-each_under
returns-then-each_under c =
    rw (sym (applying (goal.at.returns-then-each_under c).After-each_under) ∙ c.if-each_under.true) (c.ne.ensures ∙ other c.args.but c.args.m)

pub returns-else-each_under : goal.returns-else-each_under
returns-else-each_under c =
    let e = c.if-each_under.false in
    rw (sym (applying (goal.at.returns-else-each_under c).After-each_under) ∙ e) e
