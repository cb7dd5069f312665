-- The frame's numbers are written, and the first i argument classes.
use Rattle.std.proofs.Common.{◌≡◌}
use Rattle.std.proofs.Math.Seq.{paste}
use Rattle.frames.specs.Arrays.{begun}
use Rattle.frames.proofs.frame.Frames.begin.Given as goal

abbrev pub invariant-loop-i : goal.invariant-loop-i
invariant-loop-i l = record { numbers : l.self.numbers ≡ begun l.fn.self.numbers l.k l.m; values : l.self.values ≡ paste l.fn.self.values l.at l.args l.i }
