-- `reader::read_at` meets its contract: past the last pair of bytes there is none, and before it the pair is decoded, or its operation is
-- unknown.
-- Assumes nothing.
use Rattle.std.proofs.Common.{◌*◌, ◌+◌, arith, sym, ap, ◌∙◌, rules}
use Rattle.std.proofs.Math.Option.{some}
use Rattle.rules.specs.Bytes.{byte}
use Rattle.rules.specs.Model.{decode}
use Rattle.reader.proofs.Positions.{known_pair, unknown_pair, read_past, read_pair}
use Rattle.reader.proofs.read_at.Goals as goal

pub returns-then-code-at : goal.returns-then-code-at
returns-then-code-at c = sym (read_past c.args.code.now c.args.at (search rules))

pub returns-then-operation-gt3 : goal.returns-then-operation-gt3
returns-then-operation-gt3 c =
    let code = c.args.code.now in
    let at = c.args.at in
    let operation = c.byte_at-operation.ensures.0 in
    cc (read_pair code at (search rules), unknown_pair (byte code (2 * at)) (byte code (2 * at + 1)) (omega (arith, c.if-operation-gt3.true)))

pub returns : goal.returns
returns c =
    let code = c.args.code.now in
    let at = c.args.at in
    let operation = c.byte_at-operation.ensures.0 in
    let operand = c.byte_at-operand.ensures.0 in
    ap some (c.decoded.ensures ∙ (λ i. decode (operation i) (operand i)))
    ∙ sym
    (read_pair code at (search rules)
    ∙ known_pair (byte code (2 * at)) (byte code (2 * at + 1)) (omega (arith, c.if-operation-gt3.false)))
