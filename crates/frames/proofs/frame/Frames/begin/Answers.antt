-- Each turn writes one argument class more.
use Rattle.std.proofs.Common.{arith, refl, ◌≡◌, ◌*◌, length}
use Rattle.std.proofs.lemmas.List.Edits.{paste_none, paste_more}
use Rattle.frames.specs.Arrays.{frame_bytes}
use Rattle.frames.proofs.frame.Frames.begin.Goals as goal

pub loop-i-init : goal.loop-i-init
loop-i-init c = record { numbers = refl; values = paste_none c.args.self.now.values (frame_bytes * c.args.k) c.args.args.now }

pub loop-i-preserved : goal.loop-i-preserved
loop-i-preserved c =
    let l = c.loop-i in
    let a = c.args in
    let next = paste_more a.self.now.values (frame_bytes * a.k) a.args.now l.i 0 (omega arith) (omega arith) in
    record { numbers = l.invariant.numbers; values = rw l.invariant.values next }

pub returns-clause-numbers_after : goal.returns-clause-numbers_after
returns-clause-numbers_after c = c.loop-i.invariant.numbers

pub returns-clause-values_after : goal.returns-clause-values_after
returns-clause-values_after c =
    let all : c.loop-i.i ≡ length c.args.args.now = omega arith in
    rw (← all) c.loop-i.invariant.values
