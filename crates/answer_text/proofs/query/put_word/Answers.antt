-- `answer_text::query::put_word` meets its contract.
use native.Mathlib.Omega.{arith}
use Rattle.answer_text.proofs.Room.{query_room}
use Rattle.answer_text.proofs.query.put_word.Goals as goal

pub put_query-requires : goal.put_query-requires
put_query-requires c = omega (arith, c.args.out.now.room, query_room c.args.word.now c.args.visits c.requires (omega (arith, c.ranges.visits)))
