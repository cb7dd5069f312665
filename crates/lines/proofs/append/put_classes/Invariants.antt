-- The loop's invariant: the text has grown by the classes before this one.
-- Assumes nothing.
use Rattle.std.proofs.Common.{◌*◌, take}
use Rattle.lines.specs.Text.{classes}
use Rattle.lines.specs.Appended.{Appended}
use Rattle.lines.proofs.append.put_classes.Given as goal

abbrev pub invariant-loop-class : goal.invariant-loop-class
invariant-loop-class l = Appended (32 * l.class-index) l.fn.text l.at (classes (take l.class-index l.args)) l.text l.end
