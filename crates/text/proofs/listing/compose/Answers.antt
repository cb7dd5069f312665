-- `text::listing::compose`: the line of a refusal, or the two lines.
-- Assumes nothing.
use Rattle.rules.specs.Model.{model_of}
use Rattle.text.proofs.Composing.{composed_refused}
use Rattle.text.proofs.listing.compose.Goals as goal

pub returns-in-Err-clause-composed : goal.returns-in-Err-clause-composed
returns-in-Err-clause-composed c =
    composed_refused c.args.bundle.now c.in-Err.found _ _ _ c.in-Err.ensures.opens.answer c.requires (c.layout_line.ensures (model_of c.args.bundle.now))
