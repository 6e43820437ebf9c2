-- `digits` meets its contract: a number between two powers of ten.
use native.Mathlib.Omega.{arith}
use Rattle.book_writer.proofs.Digits.{digits_one, digits_more}
use Rattle.book_writer.proofs.lengths.digits.Goals as goal

pub returns-then-n-lt10 : goal.returns-then-n-lt10
returns-then-n-lt10 c = digits_one c.if-n-lt10.true

pub returns-then-n-lt100 : goal.returns-then-n-lt100
returns-then-n-lt100 c = digits_more 0 c.if-n-lt10.false c.if-n-lt100.true (omega arith)

pub returns-then-n-lt1000 : goal.returns-then-n-lt1000
returns-then-n-lt1000 c = digits_more 1 c.if-n-lt100.false c.if-n-lt1000.true (omega arith)

pub returns-then-n-lt10000 : goal.returns-then-n-lt10000
returns-then-n-lt10000 c = digits_more 2 c.if-n-lt1000.false c.if-n-lt10000.true (omega arith)

pub returns : goal.returns
returns c = digits_more 3 c.if-n-lt10000.false (omega (arith, c.ranges.n)) (omega arith)
