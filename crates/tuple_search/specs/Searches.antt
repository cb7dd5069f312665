-- What is searched.
-- Assumes nothing.
use Rattle.rules.specs.Model.{Model}
use Rattle.layout.specs.Bundles.{model}
use Rattle.tuple_search.specs.declared.tables.Search.{Search}

-- the model of the bundle
abbrev pub searched : Search → Model
searched s = model s.indexed.now.prepared.bundle
