-- Each place is asked as `suits_at` asks it.
use borrow.Author.Count.{below_more}
use native.Mathlib.Omega.{arith}
use mathlib.Core.Path.{sym, ap, ◌∙◌}
use Rattle.layout.specs.Bundles.{model}
use Rattle.rules.specs.Types.{in_type, arg_type}
use Rattle.layout.proofs.Tuples.{method_below, method_places}
use Rattle.subclasses.proofs.Asked.{declared_long}
use Rattle.overriding.proofs.Arguments.{suits_at, suits_broken, suits_all}
use Rattle.overriding.proofs.suits.suits.Goals as goal

pub declared-c-requires-clause-m_lt_methods : goal.declared-c-requires-clause-m_lt_methods
declared-c-requires-clause-m_lt_methods c = method_below c.args.prepared.now.bundle.opened c.requires.of_arity_2

pub declared-c-requires-clause-place_lt_places : goal.declared-c-requires-clause-place_lt_places
declared-c-requires-clause-place_lt_places c = omega (arith, method_places c.args.prepared.now.bundle.opened c.requires.of_arity)

pub in_arg_type-requires-clause-m_lt_methods : goal.in_arg_type-requires-clause-m_lt_methods
in_arg_type-requires-clause-m_lt_methods c = method_below c.args.prepared.now.bundle.opened c.requires.of_arity

pub in_arg_type-requires-clause-place_lt_places : goal.in_arg_type-requires-clause-place_lt_places
in_arg_type-requires-clause-place_lt_places c = omega (arith, method_places c.args.prepared.now.bundle.opened c.requires.of_arity)

pub returns-then-not-in_arg_type : goal.returns-then-not-in_arg_type
unfolding suits_at
returns-then-not-in_arg_type c =
    let M = model c.args.prepared.now.bundle in
    let asked = c.in_arg_type.ensures ∙ ap (in_type M (arg_type M c.args.m c.loop-i.i)) c.declared-c.ensures.0 in
    sym (suits_broken M c.args.n _ _ c.requires.of_arity.arity c.loop-i.i c.loop-i-test.true (sym asked ∙ c.if-not-in_arg_type.true))

pub loop-i-preserved : goal.loop-i-preserved
unfolding suits_at
loop-i-preserved c =
    let M = model c.args.prepared.now.bundle in
    let asked = c.in_arg_type.ensures ∙ ap (in_type M (arg_type M c.args.m c.loop-i.i)) c.declared-c.ensures.0 in
    below_more _ _ c.loop-i.invariant (sym asked ∙ c.if-not-in_arg_type.false)

pub returns : goal.returns
returns c =
    sym (suits_all _ c.args.n _ _ c.requires.of_arity.arity (declared_long c.args.prepared.now.bundle.opened c.requires.of_arity_2) (λ i h. c.loop-i.invariant i (omega arith)))
