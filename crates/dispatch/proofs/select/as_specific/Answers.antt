-- The specialisers of the one are compared with those of the other.
use Rattle.std.proofs.Common.{sym, ◌∙◌}
use Rattle.rules.specs.Lookup.{as_specific}
use Rattle.subclasses.proofs.Asked.{specialisers_long, specialisers_classes}
use Rattle.dispatch.proofs.select.as_specific.Goals as goal

pub each_under-requires : goal.each_under-requires
each_under-requires c =
    let p = c.requires in
    let o = c.args.prepared.now.bundle.opened in
    let own = c.specialisers-own.ensures.result_value in
    let other = c.specialisers-other.ensures.result_value in
    record {
      classes_present = rw own (specialisers_classes o p.of_arity);
      above_present = rw other (specialisers_classes o p.of_arity_2);
      as_long = rw (own, other) (specialisers_long o p.of_arity ∙ sym (specialisers_long o p.of_arity_2));
    }

pub returns : goal.returns
unfolding as_specific
returns c = rw (← c.specialisers-own.ensures.result_value, ← c.specialisers-other.ensures.result_value) c.each_under.ensures
