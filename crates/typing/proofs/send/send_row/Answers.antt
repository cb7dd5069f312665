-- A signature that licenses the send joins its result's type, and another leaves the row as it is.
use native.Mathlib.Omega.{arith}
use mathlib.Core.Path.{◌≡◌}
use Rattle.layout.specs.Bundles.{model}
use Rattle.layout.proofs.Opened.{counts_of}
use Rattle.typing.proofs.Sends.{sending_none, sending_hit, sending_miss, sending_all}
use Rattle.typing.proofs.send.send_row.Goals as goal
use Rattle.typing.proofs.send.send_row.Goals.{then-licenses, else-licenses}

pub loop-s-init : goal.loop-s-init
loop-s-init c = sending_none _ _ _

pub loop-s-preserved : goal.loop-s-preserved
loop-s-preserved c =
    elim c.if-licenses.branch [
      | then-licenses w ↦
          rw w.sent-is
          (sending_hit _ _ _ c.loop-s.sent _ c.loop-s.s w.sig_result.result c.loop-s.invariant (rw w.if-licenses.true at c.licenses.ensures)
          w.sig_result.ensures.0 (rw w.get_or_insert-row.ensures.value at w.join.ensures))
      | else-licenses w ↦ rw w.sent-is (sending_miss _ _ _ c.loop-s.sent c.loop-s.s c.loop-s.invariant (rw w.if-licenses.false at c.licenses.ensures))
    ]

pub returns : goal.returns
returns c =
    let counts = counts_of c.args.prepared.now.bundle.opened in
    let all : c.loop-s.s ≡ (model c.args.prepared.now.bundle).signatures = omega arith in
    sending_all _ _ _ _ (rw all at c.loop-s.invariant)
