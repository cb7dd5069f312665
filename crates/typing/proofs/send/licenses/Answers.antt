-- A signature of another function licenses nothing, and one of f is asked place by place.
use native.Mathlib.Omega.{arith}
use mathlib.Core.Path.{◌≡◌, sym, ap, ◌∙◌}
use Rattle.layout.specs.Bundles.{model}
use Rattle.layout.proofs.Opened.{counts_of, wellformed_of}
use Rattle.subclasses.proofs.Entry.{classes_fit}
use Rattle.typing.proofs.Sends.{passed_none, passed_more, licensed_other, licensed_broken, licensed_all}
use Rattle.typing.proofs.send.licenses.Goals as goal

pub returns-then-sig_function-f : goal.returns-then-sig_function-f
returns-then-sig_function-f c = licensed_other _ _ _ _ (λ e. c.if-sig_function-f.true (c.sig_function.ensures.0 ∙ e))

pub loop-i-init : goal.loop-i-init
loop-i-init c = passed_none _ _ _ _

pub sig_arg-c-requires-clause-place_lt_places : goal.sig_arg-c-requires-clause-place_lt_places
sig_arg-c-requires-clause-place_lt_places c =
    let w = wellformed_of c.args.bundle.now.opened in
    let counts = counts_of c.args.bundle.now.opened in
    let few = w.arity_limit c.args.f (omega arith) in
    omega arith

pub bounds-row-c : goal.bounds-row-c
bounds-row-c c = omega (arith, c.sig_arg-c.ensures.1, classes_fit c.args.bundle.now.opened)

pub returns-then-row-c-eq0 : goal.returns-then-row-c-eq0
returns-then-row-c-eq0 c =
    let M = model c.args.bundle.now in
    let fit = classes_fit c.args.bundle.now.opened in
    let counts = counts_of c.args.bundle.now.opened in
    let of_f = sym c.sig_function.ensures.0 ∙ c.if-sig_function-f.false in
    let sized = (wellformed_of c.args.bundle.now.opened).sig_places c.args.s (omega arith) ∙ ap M.arity of_f in
    licensed_broken M _ c.args.f c.args.s c.loop-i.i c.sig_arg-c.result (omega arith) c.sig_arg-c.ensures.0 (omega arith) sized c.if-row-c-eq0.true

pub loop-i-preserved : goal.loop-i-preserved
loop-i-preserved c =
    let fit = classes_fit c.args.bundle.now.opened in
    passed_more _ _ c.args.f c.args.s c.loop-i.i c.sig_arg-c.result (omega arith) c.sig_arg-c.ensures.0 (omega arith) c.loop-i.invariant c.if-row-c-eq0.false

pub returns : goal.returns
returns c =
    let M = model c.args.bundle.now in
    let counts = counts_of c.args.bundle.now.opened in
    let of_f = sym c.sig_function.ensures.0 ∙ c.if-sig_function-f.false in
    let sized = (wellformed_of c.args.bundle.now.opened).sig_places c.args.s (omega arith) ∙ ap M.arity of_f in
    let all : c.loop-i.i ≡ M.arity c.args.f = omega arith in
    licensed_all M _ _ _ of_f sized (rw all at c.loop-i.invariant)
