-- `answers::send::Send::of`: the places are read one by one.
-- Assumes nothing.
use mathlib.Core.Path.{ap}
use Prim.Native.Nat.{ℕ}
use mathlib.Core.List.{List, ◌∷◌}
use Rattle.answers.proofs.Sends.{padded_places}
use Rattle.answers.proofs.send.Send.of.Goals as goal

pub returns : goal.returns
returns c =
    rw (c.class_at-a0.ensures.0, c.class_at-a1.ensures.0, c.class_at-a2.ensures.0)
    (ap (λ (l : List ℕ). c.args.function ∷ l) (padded_places c.args.args.now c.requires))
