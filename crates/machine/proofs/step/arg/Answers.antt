-- `machine::step::arg`: the class read is the frame's argument at the place.
-- Assumes nothing.
use Rattle.std.proofs.Common.{◌≡◌, ℕ, ◌<◌, ◌∷◌, get_or, sym, ap, ◌∙◌, arith}
use Rattle.layout.specs.Bundles.{model}
use Rattle.rules.specs.Machine.{made, after}
use Rattle.layout.proofs.Opened.{counts_of, wellformed_of}
use Rattle.machine.specs.Held.{frame_of, callers_of, split}
use Rattle.machine.proofs.Passes.{arity_few, argument_read, arg_puts}
use Rattle.machine.proofs.Steps.{steps_as}
use Rattle.machine.proofs.step.arg.Goals as goal
use Rattle.machine.proofs.step.arg.Goals.{After-argument-v}

pub argument-v-requires-clause-place_lt_places : goal.argument-v-requires-clause-place_lt_places
argument-v-requires-clause-place_lt_places c =
    let p = c.requires in
    omega (arith, arity_few _ (wellformed_of c.args.bundle.now.opened) _ _ _ p.going, p.place_bound)

-- what is read is the frame's argument
reads : (c : After-argument-v)
    → let a = c.args in
    let M = model a.bundle.now in
    (c.argument-v.result ≡ get_or (frame_of M a.frames.now.numbers a.frames.now.values a.top).args a.place 0) × (c.argument-v.result < M.classes)
reads c =
    let p = c.requires in
    rw c.argument-v.ensures (argument_read _ (wellformed_of c.args.bundle.now.opened) _ _ _ p.going _ p.place_bound)

pub put-requires-clause-v_lt_classes : goal.put-requires-clause-v_lt_classes
put-requires-clause-v_lt_classes c = omega (arith, (reads (goal.at.put-requires-clause-v_lt_classes c).After-argument-v).1, counts_of c.args.bundle.now.opened)

pub returns : goal.returns
returns c =
    let a = c.args in
    let M = model a.bundle.now in
    let callers = callers_of M a.frames.now.numbers a.frames.now.values a.top in
    let top = frame_of M a.frames.now.numbers a.frames.now.values a.top in
    steps_as c.put.ensures
    (ap (λ (v : ℕ). made (after (split M top) (v ∷ top.stack)) callers) (reads (goal.at.returns c).After-argument-v).0
    ∙ sym (arg_puts M (wellformed_of c.args.bundle.now.opened) _ _ _ c.requires.going a.place))
