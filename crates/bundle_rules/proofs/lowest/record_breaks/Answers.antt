-- Code is asked only where every method keeps its own rule.
-- Assumes nothing.
use Rattle.rules.specs.Layout.{method_rule, method_count}
use Rattle.rules.proofs.Opening.{all_hold}
use Rattle.bundle_rules.proofs.lowest.record_breaks.Goals as goal

pub code_breaks-requires-clause-m_value : goal.code_breaks-requires-clause-m_value
code_breaks-requires-clause-m_value c =
    let b = c.args.chained.now.records.bytes.now in
    all_hold (method_rule b) (method_count b) (rw c.in-Code.is at c.requires.presumed) c.args.k (rw c.in-Code.is at c.requires.k_bound)
