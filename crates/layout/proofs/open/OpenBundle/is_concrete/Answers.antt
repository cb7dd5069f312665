use Rattle.rules.specs.Model.{model_of}
use Rattle.layout.proofs.open.OpenBundle.is_concrete.Goals as goal

pub returns : goal.returns
unfolding model_of
returns c = rw (c.kind.ensures, c.records.ensures.0)
