-- `text::listing::compose_opened`: the matrix is filled in an array of its own, and the bundle checked by it.
-- Assumes nothing.
use Rattle.text.proofs.Composing.{verdict_named, composed_opened}
use Rattle.text.proofs.listing.compose_opened.Goals as goal

pub verdict_line-requires-clause-named : goal.verdict_line-requires-clause-named
verdict_line-requires-clause-named c = verdict_named c.requires.opened_as c.check_in-verdict.result c.check_in-verdict.ensures

pub returns-clause-composed : goal.returns-clause-composed
returns-clause-composed c =
    composed_opened c.requires.opened_as c.check_in-verdict.result _ _ _ _ _ c.check_in-verdict.ensures c.requires.in_bounds c.counts_line-at.ensures c.verdict_line.ensures
