-- `write_opened` meets its contract: there is room for both lines.
use native.Mathlib.Omega.{arith}
use Rattle.day_writer.proofs.Rooms.{at_room}
use Rattle.day_writer.proofs.lines.write_opened.Goals as goal

pub put_at-requires : goal.put_at-requires
put_at-requires c = omega (arith, at_room c.args.place (omega (arith, c.ranges.place)))

pub put_opened-requires : goal.put_opened-requires
put_opened-requires c = omega (arith, at_room c.args.place (omega (arith, c.ranges.place)), c.put_at.ensures.wrote.size, c.put_at.ensures.wrote.next)
