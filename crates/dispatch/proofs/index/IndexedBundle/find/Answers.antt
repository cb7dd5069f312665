use Rattle.std.proofs.Common.{◌∙◌}
use Rattle.dispatch.proofs.Listed.{applicable_listed}
use Rattle.dispatch.proofs.index.IndexedBundle.find.Goals as goal

pub invariant_of-candidates : goal.invariant_of-candidates
invariant_of-candidates c =
    record { candidates = record { arity = c.requires.arity; methods = rw (c.as_slice.ensures.value ∙ c.applicable.ensures) (applicable_listed _ _ _ _) } }
