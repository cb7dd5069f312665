-- The bytes are written in order.
use Rattle.std.proofs.Common.{◌≡◌, length}
use Rattle.rules.specs.Calls.{overwrite}
use Rattle.test_support.specs.Support.{filler}
use Rattle.test_support.proofs.buffer.fill.Given as goal

abbrev pub invariant-loop-k : goal.invariant-loop-k
invariant-loop-k l = (length l.space ≡ length l.fn.space) × (l.space ≡ overwrite l.k (filler l.zeros) l.fn.space)
