-- `curiumtoad_c::body::body_place`: a layout refusal, an absent method, or the span of the body.
-- Assumes nothing.
use borrow.Author.Rules.{rules}
use mathlib.Core.Path.{◌∙◌}
use Rattle.curiumtoad.proofs.Viewed.{view_refused, view_absent, view_given}
use Rattle.curiumtoad_c.proofs.Placing.{span_reply}
use Rattle.curiumtoad_c.proofs.body.body_place.Goals as goal

pub returns-in-Err : goal.returns-in-Err
returns-in-Err c = rw (view_refused c.args.bundle.now c.args.method _ c.in-Err.ensures.opens) c.from.ensures

pub returns-then-bundle-method : goal.returns-then-bundle-method
returns-then-bundle-method c = rw (view_absent c.args.bundle.now c.args.method c.in-Ok.ensures.opens (search rules)) c.refused.ensures

pub returns-else-bundle-method : goal.returns-else-bundle-method
returns-else-bundle-method c =
    let same = c.in-Ok.ensures.same_bytes in
    let opens = c.in-Ok.ensures.opens in
    rw (view_given c.args.bundle.now c.args.method opens (search rules))
    (c.given.ensures ∙ span_reply c.args.bundle.now c.args.method opens (search rules) c.body_span-span.result (rw same at c.body_span-span.ensures))
