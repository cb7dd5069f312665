-- Each instruction leaves the check at the next, or breaks it; behind the last the end decides.
use native.Mathlib.Omega.{arith}
use mathlib.Core.Path.{◌≡◌}
use Rattle.typing.specs.Bodies.{typing_of, ended_at}
use Rattle.typing.proofs.Bodies.{reached_none, reached_more, reached_break, reached_end}
use Rattle.typing.proofs.body.type_body.Goals as goal

pub loop-at-init : goal.loop-at-init
loop-at-init c = rw c.new-stack.ensures (reached_none _ _)

pub returns-in-Err : goal.returns-in-Err
unfolding typing_of
returns-in-Err c =
    let n = c.size-n.ensures in
    reached_break _ _ c.loop-at.stack.items c.loop-at.at c.loop-at.invariant (omega arith) _ c.in-Err.number (rw c.instruction-i.ensures.result_value at c.in-Err.ensures)

pub loop-at-preserved : goal.loop-at-preserved
loop-at-preserved c =
    let n = c.size-n.ensures in
    reached_more _ _ c.loop-at.stack.items c.loop-at.at c.loop-at.invariant (omega arith) _ _ (rw c.instruction-i.ensures.result_value at c.in_default.ensures)

pub returns-in-Err-end : goal.returns-in-Err-end
unfolding typing_of ended_at
returns-in-Err-end c =
    let n = c.size-n.ensures in
    let all : c.loop-at.at ≡ c.size-n.result = omega arith in
    rw all at (reached_end _ _ c.loop-at.stack.items c.loop-at.at c.loop-at.invariant _ (omega arith) c.in-Err-end.ensures)

pub returns : goal.returns
unfolding typing_of ended_at
returns c =
    let n = c.size-n.ensures in
    reached_end _ _ c.loop-at.stack.items c.loop-at.at c.loop-at.invariant _ (omega arith) c.in_default-end.ensures
