-- `write_place` meets its contract.
use native.Mathlib.Omega.{arith}
use Rattle.day_writer.proofs.Rooms.{at_room}
use Rattle.day_lines.proofs.write_place.Goals as goal

pub returns-clause-few : goal.returns-clause-few
returns-clause-few c = omega (arith, c.write_at.ensures.next, at_room c.args.place (omega (arith, c.ranges.place)))
