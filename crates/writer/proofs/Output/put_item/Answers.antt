-- `put_item` meets its contract: one of three texts by the value.
use mathlib.Core.Path.{ap}
use native.Mathlib.Omega.{arith}
use lib.ListN.{length}
use Rattle.writer.proofs.Appending.{appended_none, appended_then}
use Rattle.writer.proofs.Lengths.{off_length}
use Rattle.writer.proofs.Written.{item_on, item_off, item_open}
use Rattle.writer.proofs.Output.put_item.Goals as goal

pub put_word-requires : goal.put_word-requires
put_word-requires c = omega (arith, ap length (item_on c.args.n c.args.v c.if-v-eq-ON.true))

pub put_number-requires : goal.put_number-requires
put_number-requires c = omega (arith, ap length (item_on c.args.n c.args.v c.if-v-eq-ON.true))

pub put_word-requires-then-v-eq-OFF : goal.put_word-requires-then-v-eq-OFF
put_word-requires-then-v-eq-OFF c = omega (arith, ap length (item_off c.args.n c.args.v c.if-v-eq-ON.false c.if-v-eq-OFF.true), off_length c.args.n)

pub put_number-requires-then-v-eq-OFF : goal.put_number-requires-then-v-eq-OFF
put_number-requires-then-v-eq-OFF c = omega (arith, ap length (item_off c.args.n c.args.v c.if-v-eq-ON.false c.if-v-eq-OFF.true), off_length c.args.n)

pub put_word-requires-then-v-eq-OFF-2 : goal.put_word-requires-then-v-eq-OFF-2
put_word-requires-then-v-eq-OFF-2 c = omega (arith, ap length (item_off c.args.n c.args.v c.if-v-eq-ON.false c.if-v-eq-OFF.true), off_length c.args.n)

pub returns-then-v-eq-ON : goal.returns-then-v-eq-ON
returns-then-v-eq-ON c = rw (item_on c.args.n c.args.v c.if-v-eq-ON.true) (appended_then c.put_word.ensures c.put_number.ensures)

pub returns-then-v-eq-OFF : goal.returns-then-v-eq-OFF
returns-then-v-eq-OFF c =
    rw (item_off c.args.n c.args.v c.if-v-eq-ON.false c.if-v-eq-OFF.true)
    (appended_then (appended_then c.put_word-then-v-eq-OFF.ensures c.put_number-then-v-eq-OFF.ensures) c.put_word-then-v-eq-OFF-2.ensures)

pub returns-else-v-eq-OFF : goal.returns-else-v-eq-OFF
returns-else-v-eq-OFF c = rw (item_open c.args.n c.args.v c.if-v-eq-ON.false c.if-v-eq-OFF.false) (appended_none _)
