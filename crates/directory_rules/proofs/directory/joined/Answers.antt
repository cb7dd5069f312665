-- A section that is not followed by the next breaks the chain, which holds where none does.
-- Assumes nothing.
use Rattle.std.proofs.Common.{suc, ◌+◌, add-one, arith, sym}
use borrow.Author.Tests.{ne_eqb}
use Rattle.rules.specs.Layout.{code_section, offset, extent, section_end}
use Rattle.rules.proofs.Decides.{every_upto}
use Rattle.directory_rules.specs.Directory.{next_rule}
use Rattle.directory_rules.proofs.directory.joined.Goals as goal

pub returns-then-section_at-section_len : goal.returns-then-section_at-section_len
unfolding section_end
returns-then-section_at-section_len c =
    let b = c.args.bytes.now in
    let k = c.loop-k.k in
    sym
    ((every_upto (next_rule b) code_section).breaks k (omega arith)
    (ne_eqb (offset b (suc k)) (offset b k + extent b k) (λ q. c.if-section_at-section_len.true (cc (add-one k)))))

pub returns : goal.returns
returns c = sym ((every_upto _ _).holds (λ j l. c.loop-k.invariant j (omega arith)))
