-- `reader::code::code_of` meets its contract: the part from the span's place on, as long as the span.
-- Assumes nothing.
use Prim.Native.Nat.{◌+◌, ◌-◌}
use native.Mathlib.Omega.{arith}
use mathlib.Core.Path.{◌≡◌}
use Rattle.rules.specs.Bytes.{part}
use Rattle.reader.proofs.code.code_of.Goals as goal

pub returns-clause-result_value : goal.returns-clause-result_value
unfolding part
returns-clause-result_value c =
    let span = c.body_span-span.result in
    let size : span.at + span.len - span.at ≡ span.len = omega arith in
    rw size c.body_span-span.ensures.code
