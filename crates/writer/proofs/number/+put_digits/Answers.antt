-- `put_digits` meets its contract: the digits of its tenth, and then its last.
use Prim.Native.Nat.{◌+◌, ◌/◌}
use native.Mathlib.Omega.{arith}
use lib.ListN.{length-set}
use Rattle.layout_laws.proofs.Decimal.{length_one, length_more}
use Rattle.writer.proofs.Appending.{wrote_byte}
use Rattle.writer.proofs.Decimals.{wrote_one, wrote_digit}
use Rattle.writer.proofs.number.+put_digits.Goals as goal

pub returns-then-n-lt10 : goal.returns-then-n-lt10
returns-then-n-lt10 t c = wrote_one _ c.if-n-lt10.true (wrote_byte _ (omega (arith, length_one c.args.n c.if-n-lt10.true)))

pub bounds-bytes-last : goal.bounds-bytes-last
bounds-bytes-last t c = omega (arith, length-set c.args.bytes.now c.args.at (48 + c.args.n / 10), length_more c.args.n c.if-n-lt10.false, length_one (c.args.n / 10) c.if-tenth-lt10.true)

pub returns-then-tenth-lt10 : goal.returns-then-tenth-lt10
returns-then-tenth-lt10 t c =
    wrote_digit _ c.if-n-lt10.false
    (wrote_one _ c.if-tenth-lt10.true (wrote_byte _ (omega (arith, length_more c.args.n c.if-n-lt10.false))))
    (wrote_byte _ (bounds-bytes-last t c))

pub returns : goal.returns
returns t c = wrote_digit _ c.if-n-lt10.false c.put_digits-last.ensures (wrote_byte _ (omega (arith, length_more c.args.n c.if-n-lt10.false, c.put_digits-last.ensures.size, c.put_digits-last.ensures.next)))
