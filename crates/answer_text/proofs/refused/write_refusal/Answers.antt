-- `answer_text::refused::write_refusal` meets its contract.
use native.Mathlib.Omega.{arith}
use Rattle.answer_text.proofs.Room.{refusal_room}
use Rattle.answer_text.proofs.refused.write_refusal.Goals as goal

pub put_refusal-requires : goal.put_refusal-requires
put_refusal-requires c = omega (arith, refusal_room c.args.refusal c.args.line (omega (arith, c.ranges.refusal)) (omega (arith, c.ranges.line)))
