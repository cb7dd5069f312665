use Rattle.std.proofs.Common.{◌<◌, length, refl, sym, arith, rules}
use Rattle.rules.proofs.Overwrite.{overwrite_none, overwrite_more}
use Rattle.test_support.specs.Support.{filler}
use Rattle.test_support.proofs.buffer.fill.Goals as goal

pub loop-k-init : goal.loop-k-init
loop-k-init c = (refl, sym (overwrite_none _ _))

pub loop-k-preserved : goal.loop-k-preserved
loop-k-preserved c =
    let within : c.loop-k.k < length c.args.space.now = omega arith in
    let more = overwrite_more (filler c.args.zeros) c.args.space.now c.loop-k.k within in
    (search rules, cc)
