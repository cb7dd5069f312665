-- `lines::line::coverage_line` meets its contract: the arity that it reads is the model's.
-- Assumes nothing.
use Rattle.std.proofs.Common.{sym}
use Rattle.rules.specs.Model.{model_of}
use Rattle.lines.proofs.Sends.{coverage_written}
use Rattle.lines.proofs.line.coverage_line.Goals as goal

pub returns : goal.returns
returns c =
    let n = c.arity-n.ensures in
    coverage_written (model_of c.args.bundle.now.bytes.now) c.args.found (sym n.0) n.1 (rw c.number-number.ensures at c.put_send-end.ensures) c.put_failure.ensures
