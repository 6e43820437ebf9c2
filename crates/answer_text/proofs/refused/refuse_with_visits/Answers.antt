-- `answer_text::refused::refuse_with_visits` meets its contract.
use native.Mathlib.Omega.{arith}
use Rattle.answer_text.proofs.Room.{overflow_room}
use Rattle.answer_text.proofs.refused.refuse_with_visits.Goals as goal

pub put_overflow-requires : goal.put_overflow-requires
put_overflow-requires c = omega (arith, c.args.out.now.room, overflow_room c.args.refusal c.args.line c.args.visits (omega (arith, c.ranges.refusal)) (omega (arith, c.ranges.line)) (omega (arith, c.ranges.visits)))
