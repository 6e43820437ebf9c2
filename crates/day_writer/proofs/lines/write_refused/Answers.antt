-- `write_refused` meets its contract: there is room for both lines.
use native.Mathlib.Omega.{arith}
use Rattle.day_writer.proofs.Rooms.{at_room, refusal_room}
use Rattle.day_writer.proofs.lines.write_refused.Goals as goal

pub put_at-requires : goal.put_at-requires
put_at-requires c = omega (arith, at_room c.args.place (omega (arith, c.ranges.place)))

pub put_refusal-requires : goal.put_refusal-requires
put_refusal-requires c =
    omega (arith, at_room c.args.place (omega (arith, c.ranges.place)), refusal_room c.args.refusal c.args.line (omega (arith, c.ranges.refusal)) (omega (arith, c.ranges.line)), c.put_at.ensures.wrote.size, c.put_at.ensures.wrote.next)
