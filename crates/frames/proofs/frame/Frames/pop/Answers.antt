-- `frames::frame::Frames::pop`: the part is as long as there are values to take off.
-- Assumes nothing.
use Rattle.std.proofs.Common.{◌+◌, ◌-◌, arith}
use Rattle.rules.proofs.Places.{part_length}
use Rattle.frames.specs.Arrays.{stack_at, height_at}
use Rattle.frames.proofs.frame.Frames.pop.Goals as goal

pub padded_tuple-requires : goal.padded_tuple-requires
padded_tuple-requires c =
    let a = c.args in
    rw c.part.ensures.result_value
    (omega (arith, part_length a.self.now.values (stack_at a.k + (height_at a.self.now.numbers a.k - a.n)) a.n (omega arith)))
