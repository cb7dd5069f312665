-- What an open bundle holds.
-- Assumes nothing.
use Rattle.rules.specs.Model.{Model, model_of}
use Rattle.layout.specs.declared.open.OpenBundle.{OpenBundle}

-- the model of its bytes
abbrev pub model : OpenBundle → Model
model b = model_of b.bytes.now
