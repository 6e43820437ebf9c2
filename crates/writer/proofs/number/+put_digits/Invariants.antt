-- `put_digits` ends: it calls itself with the tenth of the number.
use Rattle.writer.proofs.number.+put_digits.Given as goal

abbrev pub decreases-put_digits : goal.decreases-put_digits
decreases-put_digits l = l.n
