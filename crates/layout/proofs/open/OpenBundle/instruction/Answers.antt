use Rattle.std.proofs.Common.{arith}
use Rattle.layout.proofs.Opened.{placed_of}
use Rattle.layout.proofs.Readings.{body_counted, body_in, instruction_read, operand_kept}
use Rattle.layout.proofs.open.OpenBundle.instruction.Goals as goal

pub overflow_mul-at : goal.overflow_mul-at
overflow_mul-at c =
    let o = c.args.self.now.opened in
    let placed = placed_of o in
    let start = rw c.records.ensures.0 at c.body_offset.ensures.0 in
    omega (arith, body_counted o c.args.m c.requires.m_lt_methods, body_in o c.args.m c.requires.m_lt_methods)

pub overflow_add-at-2 : goal.overflow_add-at-2
overflow_add-at-2 c =
    let o = c.args.self.now.opened in
    let placed = placed_of o in
    let start = rw c.records.ensures.0 at c.body_offset.ensures.0 in
    omega (arith, body_counted o c.args.m c.requires.m_lt_methods, body_in o c.args.m c.requires.m_lt_methods)

pub byte_at-requires : goal.byte_at-requires
byte_at-requires c =
    let o = c.args.self.now.opened in
    let placed = placed_of o in
    let start = rw c.records.ensures.0 at c.body_offset.ensures.0 in
    omega (arith, body_counted o c.args.m c.requires.m_lt_methods, body_in o c.args.m c.requires.m_lt_methods)

pub overflow_add-at-3 : goal.overflow_add-at-3
overflow_add-at-3 c =
    let o = c.args.self.now.opened in
    let placed = placed_of o in
    let start = rw c.records.ensures.0 at c.body_offset.ensures.0 in
    omega (arith, body_counted o c.args.m c.requires.m_lt_methods, body_in o c.args.m c.requires.m_lt_methods)

pub byte_at-requires-2 : goal.byte_at-requires-2
byte_at-requires-2 c =
    let o = c.args.self.now.opened in
    let placed = placed_of o in
    let start = rw c.records.ensures.0 at c.body_offset.ensures.0 in
    omega (arith, body_counted o c.args.m c.requires.m_lt_methods, body_in o c.args.m c.requires.m_lt_methods)

pub returns-clause-result_value : goal.returns-clause-result_value
returns-clause-result_value c =
    let o = c.args.self.now.opened in
    let start = rw c.records.ensures.0 at c.body_offset.ensures.0 in
    let read = instruction_read o c.args.m c.args.i c.requires.m_lt_methods c.requires.i_in_bounds in
    cc

pub returns-clause-result_value_2 : goal.returns-clause-result_value_2
returns-clause-result_value_2 c =
    let o = c.args.self.now.opened in
    let start = rw c.records.ensures.0 at c.body_offset.ensures.0 in
    let read = instruction_read o c.args.m c.args.i c.requires.m_lt_methods c.requires.i_in_bounds in
    let kept = operand_kept o c.args.m c.args.i c.requires.m_lt_methods c.requires.i_in_bounds in
    cc
