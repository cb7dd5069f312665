use Rattle.rules.specs.Lookup as rules
use Rattle.dispatch.specs.Listed.{applicable_without}
use Rattle.dispatch.proofs.index.IndexedBundle.lookup.Goals as goal

pub returns : goal.returns
unfolding rules.lookup applicable_without
returns c = c.find.ensures
