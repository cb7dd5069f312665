-- `lines::append::put_digits` meets its contract: a digit alone, or the digits before the last and then the last.
-- Assumes nothing.
use Rattle.std.proofs.Common.{◌+◌, arith}
use Rattle.lines.proofs.Growing.{grown_byte, grown_both, grown_wider}
use Rattle.rules.proofs.Decimal.{digits_one, digits_more}
use Rattle.lines.proofs.append.+put_digits.Goals as goal

pub returns-then-n-lt10 : goal.returns-then-n-lt10
returns-then-n-lt10 t c =
    let a = c.args in
    rw (c.digit.ensures, digits_one a.most a.n c.requires.most_nonzero c.if-n-lt10.true)
    (grown_wider a.most (omega arith) (grown_byte a.text.now a.at (48 + a.n) (omega arith)))

pub returns : goal.returns
returns t c =
    let a = c.args in
    let inner = c.put_digits-end.ensures in
    rw (c.digit-2.ensures, digits_more a.most a.n c.requires.most_nonzero c.if-n-lt10.false)
    (grown_wider a.most (omega arith) (grown_both inner (grown_byte _ _ _ (omega (arith, inner.bound, inner.same)))))
