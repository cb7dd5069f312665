-- `reader::place_after` meets its contract: past the instruction that was read, and where it was when there was none.
-- Assumes nothing.
use native.Mathlib.Omega.{arith}
use mathlib.Core.Path.{sym}
use Rattle.reader.proofs.Positions.{read_within, place_read, place_none}
use Rattle.reader.proofs.place_after.Goals as goal

pub overflow_add-result : goal.overflow_add-result
overflow_add-result c = omega (arith, read_within _ _ _ (sym (rw c.in-Some.is at c.read_at.ensures)))

pub returns-in-Some : goal.returns-in-Some
returns-in-Some c = sym (place_read c.args.code.now c.args.at _ (sym (rw c.in-Some.is at c.read_at.ensures)))

pub returns-in-None : goal.returns-in-None
returns-in-None c = sym (place_none c.args.code.now c.args.at (sym (rw c.in-None.is at c.read_at.ensures)))
