use Rattle.std.proofs.Common.{arith}
use Rattle.rules.specs.Layout.{code_of}
use Rattle.layout.proofs.Opened.{tables_of}
use Rattle.layout.proofs.Readings.{body_in}
use Rattle.layout.proofs.open.OpenBundle.body_span.Goals as goal

pub returns : goal.returns
unfolding code_of
returns c =
    let o = c.args.self.now.opened in
    let tables = tables_of o in
    let start = rw c.records.ensures.0 at c.body_offset.ensures.0 in
    let size = rw c.records-2.ensures.0 at c.body_length-len.ensures.0 in
    record { place = cc; size = size; within = omega (arith, body_in o c.args.m c.requires); code = cc }
