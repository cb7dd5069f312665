-- `frames::frame::Frames::arguments`: the part is as long as there are arguments.
-- Assumes nothing.
use Rattle.std.proofs.Common.{◌*◌, arith}
use Rattle.rules.proofs.Places.{part_length}
use Rattle.frames.specs.Arrays.{frame_bytes}
use Rattle.frames.proofs.frame.Frames.arguments.Goals as goal

pub padded_tuple-requires : goal.padded_tuple-requires
padded_tuple-requires c =
    let a = c.args in
    rw c.part.ensures.result_value (omega (arith, part_length a.self.now.values (frame_bytes * a.k) a.n (omega arith)))
