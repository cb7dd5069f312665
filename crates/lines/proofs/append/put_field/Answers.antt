-- `lines::append::put_field` meets its contract.
-- Assumes nothing.
use Rattle.rules.specs.Decimal.{decimal}
use Rattle.lines.proofs.Growing.{grown_both}
use Rattle.lines.proofs.append.put_field.Goals as goal

pub returns : goal.returns
unfolding decimal
returns c = grown_both c.put_word-end.ensures c.put_digits.ensures
