-- What applies to a method's own specialisers, but the method, is what it overrides.
use native.Mathlib.Omega.{arith}
use mathlib.Core.Path.{sym, ap, ◌∙◌}
use Rattle.rules.specs.Lookup as rules
use Rattle.rules.specs.Resend.{resend_target}
use Rattle.rules.proofs.Resend.{overridden_others}
use Rattle.layout.specs.Bundles.{model}
use Rattle.layout.proofs.Opened.{counts_of}
use Rattle.layout.proofs.Tuples.{of_arity}
use Rattle.subclasses.proofs.Asked.{specialisers_long, specialisers_classes}
use Rattle.dispatch.specs.Listed.{applicable_but, applicable_without}
use Rattle.overriding.proofs.target.resend_target.Goals as goal

pub specialisers-requires : goal.specialisers-requires
specialisers-requires c = of_arity c.args.indexed.now.prepared.bundle.opened c.arity-n.ensures.0 c.requires (sym c.function-f.ensures.0)

pub find-requires : goal.find-requires
find-requires c =
    let o = c.args.indexed.now.prepared.bundle.opened in
    let h = of_arity o c.arity-n.ensures.0 c.requires (sym c.function-f.ensures.0) in
    record {
      function = omega (arith, c.function-f.ensures.1, (counts_of o).functions);
      arity = rw c.specialisers.ensures.result_value (specialisers_long o h ∙ c.arity-n.ensures.0);
      classes = rw c.specialisers.ensures.result_value (specialisers_classes o h);
    }

pub returns : goal.returns
unfolding resend_target applicable_but applicable_without
returns c =
    let M = model c.args.indexed.now.prepared.bundle in
    rw (c.function-f.ensures.0, c.specialisers.ensures.result_value) at c.find.ensures ∙ ap (rules.select M) (sym (overridden_others M c.args.m))
