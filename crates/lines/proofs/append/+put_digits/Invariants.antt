-- Each call has room for one digit less.
-- Assumes nothing.
use Rattle.lines.proofs.append.+put_digits.Given as goal

abbrev pub decreases-put_digits : goal.decreases-put_digits
decreases-put_digits l = l.most
