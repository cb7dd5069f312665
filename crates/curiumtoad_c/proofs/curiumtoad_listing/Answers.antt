-- `curiumtoad_c::curiumtoad_listing`: the reply to the call's answer is handed over.
-- Assumes nothing.
use mathlib.Core.Path.{ap}
use Rattle.reply.specs.Replies.{reply, line_length}
use Rattle.curiumtoad_c.proofs.Handing.{handed_as, listed}
use Rattle.curiumtoad_c.proofs.curiumtoad_listing.Goals as goal

pub returns-clause-handed : goal.returns-clause-handed
returns-clause-handed c =
    let call = listed _ c.listing-answer.result c.listing-answer.ensures.lists in
    handed_as (ap (reply line_length) call.0) (handed_as c.listing_reply.ensures c.give.ensures)

pub returns-clause-text_after : goal.returns-clause-text_after
returns-clause-text_after c = (listed _ c.listing-answer.result c.listing-answer.ensures.lists).1
