use Rattle.std.proofs.Common.{arith}
use Rattle.layout.proofs.Opened.{placed_of}
use Rattle.layout.proofs.Readings.{parent_within, parent_read}
use Rattle.layout.proofs.open.OpenBundle.parent.Goals as goal

pub overflow_add-self-2 : goal.overflow_add-self-2
overflow_add-self-2 c =
    let within = parent_within c.args.self.now.opened c.args.c c.args.i c.requires.c_lt_classes c.requires.i_in_bounds in
    let placed = placed_of c.args.self.now.opened in
    let start = c.list_offset.ensures.0 in
    omega arith

pub byte_at-requires : goal.byte_at-requires
byte_at-requires c = rw (c.list_offset.ensures.0, c.records.ensures.0) (parent_within c.args.self.now.opened c.args.c c.args.i c.requires.c_lt_classes c.requires.i_in_bounds)

pub returns : goal.returns
returns c = rw (c.byte_at.ensures.0, c.list_offset.ensures.0, c.records.ensures.0) (parent_read c.args.self.now.opened c.args.c c.args.i c.requires.c_lt_classes c.requires.i_in_bounds)
