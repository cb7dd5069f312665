-- `machine::returning::return_values`: a value is handed to the caller below, or is the run's.
-- Assumes nothing.
use Rattle.std.proofs.Common.{◌≡◌, ℕ, ◌+◌, ◌-◌, refl, sym, ap, ◌∙◌, arith}
use Rattle.rules.specs.Machine.{ends, value}
use Rattle.machine.proofs.Ended.{resumed_value, resumed_hands, caller_room}
use Rattle.machine.proofs.returning.return_values.Goals as goal

pub push-requires-clause-height_bound : goal.push-requires-clause-height_bound
push-requires-clause-height_bound c =
    let l = c.loop-caller in
    (caller_room _ l.frames.numbers l.frames.values l.caller (l.caller - 1) (omega arith) l.invariant.held).height

pub loop-caller-preserved : goal.loop-caller-preserved
loop-caller-preserved c =
    let l = c.loop-caller in
    let z : l.caller - 1 + 1 ≡ l.caller = omega arith in
    let (over, single, v, small) = rw (c.in-Some.is, z) at c.in_ok-v.ensures in
    let p = c.push.ensures in
    let (below, same) = resumed_hands _ l.frames.numbers l.frames.values l.caller _ (omega arith) l.invariant.held over single _ _ _ p.numbers_after p.values_after v in
    record { held = below; same = same ∙ l.invariant.same }

pub returns : goal.returns
returns c =
    let l = c.loop-caller in
    let z : l.caller ≡ 0 = omega arith in
    let (over, single, v, small) = rw c.in-Some-2.is at c.in_ok-v-2.ensures in
    record {
      resumes = ap (λ (x : ℕ). ends (value x)) v ∙ sym (resumed_value _ l.frames.numbers l.frames.values 0 refl over single) ∙ (rw z at l.invariant.same);
      onward = tt;
    }
