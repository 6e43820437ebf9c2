-- `put_shares` meets its contract: five texts one after the other.
use native.Mathlib.Omega.{arith}
use Rattle.day_text.specs.Output.{shares_text}
use Rattle.writer.proofs.Appending.{appended_then}
use Rattle.day_writer.proofs.Rooms.{total_room}
use Rattle.day_writer.proofs.shares_line.put_shares.Goals as goal

pub put_number-requires : goal.put_number-requires
put_number-requires c = omega (arith, c.requires, total_room c.args.total (omega (arith, c.ranges.total)), c.put_word.ensures.wrote.size, c.put_word.ensures.wrote.next)

pub put_word-requires-2 : goal.put_word-requires-2
put_word-requires-2 c =
    omega (arith, c.requires, total_room c.args.total (omega (arith, c.ranges.total)), c.put_word.ensures.wrote.size, c.put_word.ensures.wrote.next, c.put_number.ensures.wrote.size, c.put_number.ensures.wrote.next)

pub put_places-requires : goal.put_places-requires
put_places-requires c =
    omega (arith, c.requires, total_room c.args.total (omega (arith, c.ranges.total)), c.put_word.ensures.wrote.size, c.put_word.ensures.wrote.next, c.put_number.ensures.wrote.size, c.put_number.ensures.wrote.next, c.put_word-2.ensures.wrote.size, c.put_word-2.ensures.wrote.next)

pub put_word-requires-3 : goal.put_word-requires-3
put_word-requires-3 c =
    omega (arith, c.requires, total_room c.args.total (omega (arith, c.ranges.total)), c.put_word.ensures.wrote.size, c.put_word.ensures.wrote.next, c.put_number.ensures.wrote.size, c.put_number.ensures.wrote.next, c.put_word-2.ensures.wrote.size, c.put_word-2.ensures.wrote.next, c.put_places.ensures.0.wrote.size, c.put_places.ensures.1)

pub returns : goal.returns
unfolding shares_text
returns c = appended_then (appended_then (appended_then (appended_then c.put_word.ensures c.put_number.ensures) c.put_word-2.ensures) c.put_places.ensures.0) c.put_word-3.ensures
