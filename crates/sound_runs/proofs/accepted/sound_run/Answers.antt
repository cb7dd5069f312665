-- `sound_runs::accepted::sound_run`: no number stopped the run.
-- Assumes nothing.
use mathlib.Core.Path.{ap}
use Rattle.layout.specs.Bundles.{model}
use Rattle.rules.specs.Machine.{Outcome}
use Rattle.sound_runs.proofs.Accepting.{unstopped, sound_ending}
use Rattle.sound_runs.proofs.accepted.sound_run.Goals as goal

pub sound_end-requires : goal.sound_end-requires
sound_end-requires c =
    let p = c.requires in
    let sound = sound_ending c.args.prepared.now.bundle.opened p.accepted c.args.function c.args.args.now c.args.count p.args_concrete p.covered in
    unstopped (model c.args.prepared.now.bundle) c.args.function c.args.args.now c.run.result.ending (rw (ap (λ (o : Outcome). o.ending) c.run.ensures) sound)
